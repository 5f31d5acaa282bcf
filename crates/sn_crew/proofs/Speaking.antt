-- What the speakers have said after one round more, and who of many is spent.
use Rattle.std.proofs.Common.{◌≡◌, ◌+◌, ◌∙◌, ◌++◌, ◌≤◌, ◌<◌, ◌||◌, ℕ, suc, Bool, List, [], ◌∷◌, Some, get_or, length, map, refl}
use Rattle.std.proofs.Common.{sym, ap, subst, arith}
use Rattle.std.specs.Prelude.{slice_get}
use Rattle.std.specs.List.{list_any}
use Rattle.std.proofs.lemmas.Option.{slice_get-get_or, slice_get_within}
use Rattle.sn_channel.specs.Ends.{SpeakerLog}
use Rattle.sn_manager.specs.Managers.{AreOf, due_in}
use Rattle.sn_manager.specs.Saying.{HasSaid, NoneAhead, said_more}
use Rattle.sn_scenario.specs.Plans.{due_of}
use Rattle.sn_scenario.specs.Scenarios.{ScenarioForm}
use Rattle.sn_seat.specs.declared.shared.Shared.{Shared}
use Rattle.sn_sharing.specs.Opened.{AreSilent}
use Rattle.sn_crew.specs.Crews.{EachAt, HaveSaid}
use Rattle.sn_crew.specs.Stands.{said_by}

-- a test of what many are mapped to
pub list_any_map : {A B : Type 0} (test : B → Bool) (f : A → B) (xs : List A)
    → list_any test (map f xs) ≡ list_any (λ x. test (f x)) xs
list_any_map test f [] = refl
list_any_map test f (x ∷ xs) = ap (λ b. test (f x) || b) (list_any_map test f xs)

-- elements of one place are one
pub one_there : {A : Type 0} (xs : List A) (n : ℕ) (x y : A) → slice_get xs n ≡ Some x → slice_get xs n ≡ Some y → x ≡ y
one_there xs n x y p q = let e : Some x ≡ Some y = sym p ∙ q in cc

module _ (form : ScenarioForm) (shared : Shared) (rounds : ℕ) (old new : List SpeakerLog) where
  pub said_on : HaveSaid form shared rounds old → HasSaid (due_in form (rounds + 1)) old new
      → AreOf new shared.channels.items
      → ((later : ℕ) → rounds + 1 ≤ later → NoneAhead (due_in form later) new)
      → HaveSaid form shared (rounds + 1) new
  said_on was more of ahead = record {
    channels = of;
    workers = more.len ∙ was.workers;
    said = said;
    ahead = ahead;
  }
    where
      next_said : (worker : ℕ) → said_by form worker (rounds + 1)
          ≡ said_by form worker rounds ++ due_of worker (rounds + 1) form ∷ []
      next_said worker =
          let next : suc rounds ≡ rounds + 1 = omega (arith) in
          subst (λ n. said_by form worker n ≡ said_by form worker rounds ++ due_of worker n form ∷ []) next refl

      said : EachAt (λ worker speaker. speaker.said ≡ said_by form worker (rounds + 1)) new
      said worker speaker there =
          let within : worker < length old =
          omega (arith, slice_get_within new worker speaker there, more.len) in
          let before : SpeakerLog = get_or old worker speaker in
          let was_there : slice_get old worker ≡ Some before = slice_get-get_or old worker speaker within in
          let is : speaker ≡ said_more (due_in form (rounds + 1) worker) before =
          one_there new worker speaker _ there (more.each worker before was_there) in
          ap (λ (s : SpeakerLog). s.said) is
          ∙ (ap (λ xs. xs ++ due_of worker (rounds + 1) form ∷ []) (was.said worker before was_there)
          ∙ sym (next_said worker))

module _ (form : ScenarioForm) (shared : Shared) (old new : List SpeakerLog) where
  -- what is due at the opening is all that was said then
  pub said_first : AreSilent old shared.channels.items → length old ≡ form.settings.workers
      → HasSaid (due_in form 0) old new → AreOf new shared.channels.items
      → ((later : ℕ) → 0 ≤ later → NoneAhead (due_in form later) new)
      → HaveSaid form shared 0 new
  said_first silent many more of ahead = record {
    channels = of;
    workers = more.len ∙ many;
    said = said;
    ahead = ahead;
  }
    where
      said : EachAt (λ worker speaker. speaker.said ≡ said_by form worker 0) new
      said worker speaker there =
          let within : worker < length old =
          omega (arith, slice_get_within new worker speaker there, more.len) in
          let before : SpeakerLog = get_or old worker speaker in
          let was_there : slice_get old worker ≡ Some before = slice_get-get_or old worker speaker within in
          let is : speaker ≡ said_more (due_in form 0 worker) before =
          one_there new worker speaker _ there (more.each worker before was_there) in
          ap (λ (s : SpeakerLog). s.said) is
          ∙ ap (λ xs. xs ++ due_of worker 0 form ∷ []) (silent.said worker before was_there)
