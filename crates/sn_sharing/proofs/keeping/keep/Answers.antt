use Rattle.std.proofs.Common.{map, sym, ◌∙◌}
use Rattle.sn_app.specs.Desk.{name_of}
use Rattle.sn_packet.specs.Hold.{frees_of}
use Rattle.sn_sharing.proofs.Emptying.{sorted_names, sorted_weight}
use Rattle.sn_sharing.proofs.keeping.keep.Goals as goal

pub returns : goal.returns
returns c =
    let names = c.in_ok-names.names.items in
    let sorted = c.sort.new.self.items in
    let e = c.in_ok-names.ensures in
    let s = c.in_ok-sort.ensures in
    record {
      names_are = record {
        same = sorted_names (map name_of (frees_of c.args.hold)) names sorted e.names_are s.permutation;
        rising = s.sorted;
      };
      weighs = λ f. e.weighs f ∙ sym (sorted_weight f names sorted s.permutation);
    }
