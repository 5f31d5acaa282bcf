-- What a plain form answers, and how each action changes that.
use Rattle.std.specs.FinMap as finmap
use Rattle.std.specs.FinSet as finset
use Rattle.std.proofs.Common.{Bool, List, None, Option, Some, ap, cond, false, is_some, not, refl, subst, sym, true, ℕ, ◌&&◌, ◌∙◌, ◌≡◌, ◌||◌}
use Rattle.std.proofs.lemmas.Cmp.{tied_itself}
use Rattle.std.specs.Ordering.{eq_by_cmp, is_eq}
use Rattle.sn_actions.proofs.MapEntries.{no_value}
use Rattle.sn_actions.proofs.FiniteMaps.{equal_from}
use Rattle.sn_actions.specs.PlainForms.{PlainForm}
use Rattle.sn_actions.specs.Plains.{in_port, is_at_some, is_link, out_port, without_app}
use Rattle.sn_config.specs.Configs.{same_name}
use Rattle.sn_config.specs.declared.app_spec.AppSpec.{AppSpec}
use Rattle.sn_names.specs.LinkOrder.{exact_links, exact_names, exact_ports, link_cmp, link_cmp_total, name_cmp, name_cmp_total, port_cmp, port_cmp_total}
use Rattle.sn_names.specs.declared.link.LinkSpec.{LinkSpec}

-- the same link, name and port
abbrev pub is_this : LinkSpec → LinkSpec → Bool
is_this m l = eq_by_cmp link_cmp m l

abbrev pub is_named : List ℕ → List ℕ → Bool
is_named m n = eq_by_cmp name_cmp m n

pub this_is : (m l : LinkSpec) → is_this m l ≡ true → m ≡ l
this_is m l h = exact_links m l (equal_from (link_cmp m l) h)

pub named_is : (m n : List ℕ) → is_named m n ≡ true → m ≡ n
named_is m n h = exact_names m n (equal_from (name_cmp m n) h)

pub this_self : (l : LinkSpec) → is_this l l ≡ true
this_self l = ap is_eq (tied_itself link_cmp_total l)

pub named_self : (n : List ℕ) → is_named n n ≡ true
named_self n = ap is_eq (tied_itself name_cmp_total n)

pub key_is : (k j : List ℕ × List ℕ) → eq_by_cmp port_cmp k j ≡ true → k ≡ j
key_is k j h = exact_ports k j (equal_from (port_cmp k j) h)

pub key_self : (k : List ℕ × List ℕ) → eq_by_cmp port_cmp k k ≡ true
key_self k = ap is_eq (tied_itself port_cmp_total k)

pub both_left : (a b : Bool) → (a && b) ≡ true → a ≡ true
both_left true b h = refl
both_left false b h = h

pub both_right : (a b : Bool) → (a && b) ≡ true → b ≡ true
both_right true b h = h
both_right false b h = cc

pub either_right : (a b : Bool) → b ≡ true → (a || b) ≡ true
either_right true b h = refl
either_right false b h = h

pub not_true : (b : Bool) → not b ≡ true → b ≡ false
not_true true h = cc
not_true false h = refl

-- what a plain form answers: the app of a name; whether a link is there, is at its output port, is
-- at its input port
pub record Look : Type 0 where
  pub apps : List ℕ → Option AppSpec
  pub links : LinkSpec → Bool
  pub outs : LinkSpec → Bool
  pub ins : LinkSpec → Bool

-- the links at ports are these, each at its own
pub record PortsHold (ports : finmap.FinMap port_cmp LinkSpec) (port : LinkSpec → List ℕ × List ℕ) (there : LinkSpec → Bool) : Type 0 where
  pub of : (l : LinkSpec) → there l ≡ true → finmap.get ports (port l) ≡ Some l
  pub only : (k : List ℕ × List ℕ) (l : LinkSpec) → finmap.get ports k ≡ Some l → there l ≡ true
  pub own : (k : List ℕ × List ℕ) (l : LinkSpec) → finmap.get ports k ≡ Some l → k ≡ port l

pub record Holds (plain : PlainForm) (look : Look) : Type 0 where
  pub apps : (n : List ℕ) → finmap.get plain.apps n ≡ look.apps n
  pub links : (l : LinkSpec) → finset.contains plain.links l ≡ look.links l
  pub outs : PortsHold plain.outs out_port look.outs
  pub ins : PortsHold plain.ins in_port look.ins

module _ (port : LinkSpec → List ℕ × List ℕ) where
  -- two links at one port are one
  one_at_port : (ports : finmap.FinMap port_cmp LinkSpec) (there : LinkSpec → Bool) (l m : LinkSpec) → PortsHold ports port there → there l ≡ true → there m ≡ true → port m ≡ port l → m ≡ l
  one_at_port ports there l m h t u same =
      let a : finmap.get ports (port l) ≡ Some l = h.of l t in
      let b : finmap.get ports (port m) ≡ Some m = h.of m u in
      let d : finmap.get ports (port m) ≡ finmap.get ports (port l) = ap (finmap.get ports) same in
      cc

  removed_of : (b : Bool) (ports : finmap.FinMap port_cmp LinkSpec) (there : LinkSpec → Bool) (l m : LinkSpec) → PortsHold ports port there → there l ≡ true → there m ≡ true → is_this m l ≡ false → eq_by_cmp port_cmp (port m) (port l) ≡ b → cond b None (finmap.get ports (port m)) ≡ Some m
  removed_of true ports there l m h t u n e =
      let same : m ≡ l = one_at_port ports there l m h t u (key_is (port m) (port l) e) in
      let yes : is_this m l ≡ true = subst (λ x. is_this m x ≡ true) same (this_self m) in cc
  removed_of false ports there l m h t u n e = h.of m u

  removed_only : (b : Bool) (ports : finmap.FinMap port_cmp LinkSpec) (there : LinkSpec → Bool) (l m : LinkSpec) (k : List ℕ × List ℕ) → PortsHold ports port there → eq_by_cmp port_cmp k (port l) ≡ b → cond b None (finmap.get ports k) ≡ Some m → (is_this m l ≡ true → b ≡ true) × (finmap.get ports k ≡ Some m)
  removed_only true ports there l m k h e g = cc
  removed_only false ports there l m k h e g = (
    (λ t. let same : m ≡ l = this_is m l t in
        let own : k ≡ port m = h.own k m g in
        let at : k ≡ port l = own ∙ ap port same in
        let yes : eq_by_cmp port_cmp k (port l) ≡ true = subst (λ x. eq_by_cmp port_cmp k x ≡ true) at (key_self k) in cc),
    g,
  )

  and_not : (a b : Bool) → (a ≡ true → ⊥) → b ≡ true → (not a && b) ≡ true
  and_not true b n h = absurd (n refl)
  and_not false b n h = h

  -- a link goes from its port
  pub ports_removed : (ports : finmap.FinMap port_cmp LinkSpec) (there : LinkSpec → Bool) (l : LinkSpec) → PortsHold ports port there → there l ≡ true → PortsHold (finmap.remove ports (port l)) port (λ m. not (is_this m l) && there m)
  ports_removed ports there l h t =
      let left = λ (k : List ℕ × List ℕ). finmap.get-remove port_cmp_total ports (port l) k in
      let both : (k : List ℕ × List ℕ) (m : LinkSpec) → finmap.get (finmap.remove ports (port l)) k ≡ Some m → (is_this m l ≡ true → eq_by_cmp port_cmp k (port l) ≡ true) × (finmap.get ports k ≡ Some m) = λ k m g. removed_only (eq_by_cmp port_cmp k (port l)) ports there l m k h refl (sym (left k) ∙ g) in
      record {
        of = λ m u. left (port m) ∙ removed_of (eq_by_cmp port_cmp (port m) (port l)) ports there l m h t (both_right (not (is_this m l)) (there m) u) (not_true (is_this m l) (both_left (not (is_this m l)) (there m) u)) refl;
        only = λ k m g. and_not (is_this m l) (there m) (λ y. removed_apart k l m ports there h t (both k m g).1 y g) (h.only k m (both k m g).1);
        own = λ k m g. h.own k m (both k m g).1;
      }
    where
      removed_apart : (k : List ℕ × List ℕ) (l m : LinkSpec) (ports : finmap.FinMap port_cmp LinkSpec) (there : LinkSpec → Bool) → PortsHold ports port there → there l ≡ true → finmap.get ports k ≡ Some m → is_this m l ≡ true → finmap.get (finmap.remove ports (port l)) k ≡ Some m → ⊥
      removed_apart k l m ports there h t g y r =
          let at : k ≡ port l = h.own k m g ∙ ap port (this_is m l y) in
          let b : eq_by_cmp port_cmp k (port l) ≡ true = subst (λ x. eq_by_cmp port_cmp k x ≡ true) at (key_self k) in
          let gone : finmap.get (finmap.remove ports (port l)) k ≡ None = finmap.get-remove port_cmp_total ports (port l) k ∙ ap (λ c. cond c None (finmap.get ports k)) b in cc

  added_of : (b c : Bool) (ports : finmap.FinMap port_cmp LinkSpec) (there : LinkSpec → Bool) (l m : LinkSpec) → PortsHold ports port there → ((x : LinkSpec) → there x ≡ true → port x ≡ port l → ⊥) → eq_by_cmp port_cmp (port m) (port l) ≡ b → is_this m l ≡ c → (c || there m) ≡ true → cond b (Some l) (finmap.get ports (port m)) ≡ Some m
  added_of true true ports there l m h free e t u = ap Some (sym (this_is m l t))
  added_of true false ports there l m h free e t u = absurd (free m u (key_is (port m) (port l) e))
  added_of false true ports there l m h free e t u =
      let yes : eq_by_cmp port_cmp (port m) (port l) ≡ true = subst (λ x. eq_by_cmp port_cmp (port m) (port x) ≡ true) (this_is m l t) (key_self (port m)) in cc
  added_of false false ports there l m h free e t u = h.of m u

  -- what is at a port once a link was added: that link, or what was there
  data AddedAt (ports : finmap.FinMap port_cmp LinkSpec) (l m : LinkSpec) (k : List ℕ × List ℕ) : Type 0 where
    New : l ≡ m → k ≡ port l → AddedAt ports l m k
    Old : finmap.get ports k ≡ Some m → AddedAt ports l m k

  added_at : (b : Bool) (ports : finmap.FinMap port_cmp LinkSpec) (l m : LinkSpec) (k : List ℕ × List ℕ) → eq_by_cmp port_cmp k (port l) ≡ b → cond b (Some l) (finmap.get ports k) ≡ Some m → AddedAt ports l m k
  added_at true ports l m k e g = let same : l ≡ m = cc in New same (key_is k (port l) e)
  added_at false ports l m k e g = Old g

  added_only : (ports : finmap.FinMap port_cmp LinkSpec) (there : LinkSpec → Bool) (l m : LinkSpec) (k : List ℕ × List ℕ) → PortsHold ports port there → AddedAt ports l m k → (is_this m l || there m) ≡ true
  added_only ports there l m k h (New e f) = ap (λ b. b || there m) (subst (λ x. is_this x l ≡ true) e (this_self l))
  added_only ports there l m k h (Old g) = either_right (is_this m l) (there m) (h.only k m g)

  added_own : (ports : finmap.FinMap port_cmp LinkSpec) (there : LinkSpec → Bool) (l m : LinkSpec) (k : List ℕ × List ℕ) → PortsHold ports port there → AddedAt ports l m k → k ≡ port m
  added_own ports there l m k h (New e f) = f ∙ ap port e
  added_own ports there l m k h (Old g) = h.own k m g

  -- a link comes to its port, at which none is
  pub ports_added : (ports : finmap.FinMap port_cmp LinkSpec) (there : LinkSpec → Bool) (l : LinkSpec) → PortsHold ports port there → ((m : LinkSpec) → there m ≡ true → port m ≡ port l → ⊥) → PortsHold (finmap.insert ports (port l) l) port (λ m. is_this m l || there m)
  ports_added ports there l h free =
      let now = λ (k : List ℕ × List ℕ). finmap.get-insert port_cmp_total ports (port l) l k in
      let came : (k : List ℕ × List ℕ) (m : LinkSpec) → finmap.get (finmap.insert ports (port l) l) k ≡ Some m → AddedAt ports l m k = λ k m g. added_at (eq_by_cmp port_cmp k (port l)) ports l m k refl (sym (now k) ∙ g) in
      record {
        of = λ m u. now (port m) ∙ added_of (eq_by_cmp port_cmp (port m) (port l)) (is_this m l) ports there l m h free refl refl u;
        only = λ k m g. added_only ports there l m k h (came k m g);
        own = λ k m g. added_own ports there l m k h (came k m g);
      }

  -- no link is at a port where none of these is
  free_by : (o : Option LinkSpec) (ports : finmap.FinMap port_cmp LinkSpec) (there : LinkSpec → Bool) (l : LinkSpec) → PortsHold ports port there → ((m : LinkSpec) → there m ≡ true → port m ≡ port l → ⊥) → finmap.get ports (port l) ≡ o → is_some o ≡ false
  free_by None ports there l h free e = refl
  free_by (Some m) ports there l h free e = absurd (free m (h.only (port l) m e) (sym (h.own (port l) m e)))

  pub port_free : (ports : finmap.FinMap port_cmp LinkSpec) (there : LinkSpec → Bool) (l : LinkSpec) → PortsHold ports port there → ((m : LinkSpec) → there m ≡ true → port m ≡ port l → ⊥) → finmap.contains_key ports (port l) ≡ false
  port_free ports there l h free = free_by (finmap.get ports (port l)) ports there l h free refl

  other_by : (b : Bool) (there : LinkSpec → Bool) (l m : LinkSpec) → is_this m l ≡ b → there l ≡ false → there m ≡ true → b ≡ false
  other_by true there l m e n t = let u : there l ≡ true = subst (λ x. there x ≡ true) (this_is m l e) t in cc
  other_by false there l m e n t = refl

  -- a link that isn't there is at no port
  pub at_no_port : (ports : finmap.FinMap port_cmp LinkSpec) (there : LinkSpec → Bool) (l : LinkSpec) → PortsHold ports port there → there l ≡ false → is_at_some ports l ≡ false
  at_no_port ports there l h n = no_value port_cmp_total ports (λ m. is_this m l) (λ k m g. other_by (is_this m l) there l m refl n (h.only k m g))

  pub at_its_port : (ports : finmap.FinMap port_cmp LinkSpec) (there : LinkSpec → Bool) (l : LinkSpec) → PortsHold ports port there → there l ≡ true → is_link (finmap.get ports (port l)) l ≡ true
  at_its_port ports there l h t = ap (λ o. is_link o l) (h.of l t) ∙ this_self l

  dropped_by : (b : Bool) (ports : finmap.FinMap port_cmp LinkSpec) (k : List ℕ × List ℕ) (m : LinkSpec) → cond b (finmap.get ports k) None ≡ Some m → (b ≡ true) × (finmap.get ports k ≡ Some m)
  dropped_by true ports k m g = (refl, g)
  dropped_by false ports k m g = cc

  -- the links at the ports of an app go
  pub ports_dropped : (ports : finmap.FinMap port_cmp LinkSpec) (there : LinkSpec → Bool) (n : List ℕ) → PortsHold ports port there → PortsHold (without_app ports n) port (λ m. not (same_name (port m).0 n) && there m)
  ports_dropped ports there n h =
      let stays : List ℕ × List ℕ → Bool = λ k. not (same_name k.0 n) in
      let left : (k : List ℕ × List ℕ) → finmap.get (without_app ports n) k ≡ cond (stays k) (finmap.get ports k) None = λ k. finmap.get-retain_keys ports stays k (λ x t. ap stays (sym (exact_ports k x t))) in
      let both : (k : List ℕ × List ℕ) (m : LinkSpec) → finmap.get (without_app ports n) k ≡ Some m → (stays k ≡ true) × (finmap.get ports k ≡ Some m) = λ k m g. dropped_by (stays k) ports k m (sym (left k) ∙ g) in
      record {
        of = λ m u. left (port m) ∙ ap (λ b. cond b (finmap.get ports (port m)) None) (both_left (stays (port m)) (there m) u) ∙ h.of m (both_right (stays (port m)) (there m) u);
        only = λ k m g. ap (λ b. b && there m) (ap stays (sym (h.own k m (both k m g).1)) ∙ (both k m g).0) ∙ h.only k m (both k m g).1;
        own = λ k m g. h.own k m (both k m g).1;
      }
