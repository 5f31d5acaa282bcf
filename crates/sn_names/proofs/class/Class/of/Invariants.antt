use Rattle.std.proofs.Common.{◌≡◌, ◌≤◌}
use Rattle.sn_names.proofs.ClassPlaces.{place}
use Rattle.sn_names.specs.Classes.{class_word}
use Rattle.sn_names.specs.declared.class.Class.{Class}
use Rattle.sn_names.proofs.class.Class.of.Given as goal

-- a class of this word is still to come
abbrev pub invariant-loop-class : goal.invariant-loop-class
invariant-loop-class l = (class : Class) → l.text ≡ class_word class → l.class-index ≤ place class
