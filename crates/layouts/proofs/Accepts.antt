-- What is read, where nothing is refused.
use Rattle.std.proofs.Common.{◌≡◌, ℕ, ◌+◌, ◌-◌, ◌≤◌, Bool, true, false, not, ltb, List, length, take, drop, Some, Ok, Err, sym, refl, ap, ◌∙◌}
use Rattle.std.proofs.lemmas.Bool.{le-ltb, ltb-false, not-false, not_from_true}
use Rattle.terms.specs.declared.refusal.Refusal.TheVariants as refusal
use Rattle.terms.specs.Replies.{refuse_if, found_or}
use Rattle.terms.specs.declared.refusal.Refusal.{Refusal}
use Rattle.terms.proofs.Replies.{after_ok, after_err, after_inv, refuse_not, refuse_inv, found_some, found_inv}
use Rattle.rules.specs.Components.{type_of, kind_of, kind_in, is_allowed}
use Rattle.rules.specs.declared.component.Component.{Component}
use Rattle.rules.specs.declared.component.Component.TheVariants.{MatchAll, Ipv4, Ipv6, Protocol, Port, PortRange, SecurityIndex, ServiceType, FlowLabel}
use Rattle.rules.specs.declared.component.Kind.{Kind}
use Rattle.rules.specs.declared.component.Kind.TheVariants as kind
use Rattle.rules.specs.declared.descriptor.Descriptor.{Descriptor}
use Rattle.layouts.specs.Layout.{value_octets}
use Rattle.layouts.specs.Reading.{FrameFields, size_of, value_from, clashes, component_from, components_in, descriptor_from, frame_from, rule_from}

pub component_ok : (ts : List ℕ) (t : ℕ) (xs : List ℕ) (k : Kind) (c : Component)
    → kind_of t ≡ Some k → size_of k ≤ length xs → clashes (type_of k) ts ≡ false → c ≡ value_from k (take (size_of k) xs) → is_allowed c ≡ true
    → component_from ts t xs ≡ Ok c
component_ok ts t xs k c known room apart is in_range =
    let value = value_from k (take (size_of k) xs) in
    after_ok _ (found_some refusal.ComponentType known) ∙ refuse_not _ _ (le-ltb _ _ room) ∙ refuse_not _ _ apart
    ∙ refuse_not _ _ (not_from_true (is_allowed value) (ap is_allowed (sym is) ∙ in_range)) ∙ ap (λ x. Ok x) (sym is)

kind_kept : (k : Kind) (v : List ℕ) → kind_in (value_from k v) ≡ k
kind_kept kind.MatchAll v = refl
kind_kept kind.Ipv4 v = refl
kind_kept kind.Ipv6 v = refl
kind_kept kind.Protocol v = refl
kind_kept kind.Port v = refl
kind_kept kind.PortRange v = refl
kind_kept kind.SecurityIndex v = refl
kind_kept kind.ServiceType v = refl
kind_kept kind.FlowLabel v = refl

pub length_value : (c : Component) → length (value_octets c) ≡ size_of (kind_in c)
length_value MatchAll = refl
length_value (Ipv4 a m) = refl
length_value (Ipv6 a p) = refl
length_value (Protocol n) = refl
length_value (Port n) = refl
length_value (PortRange l h) = refl
length_value (SecurityIndex i) = refl
length_value (ServiceType v m) = refl
length_value (FlowLabel l) = refl

-- what a component that was read shows
pub record ComponentRead (ts : List ℕ) (t : ℕ) (xs : List ℕ) (c : Component) : Type 0 where
  pub known : kind_of t ≡ Some (kind_in c)
  pub room : size_of (kind_in c) ≤ length xs
  pub apart : clashes (type_of (kind_in c)) ts ≡ false
  pub is : c ≡ value_from (kind_in c) (take (size_of (kind_in c)) xs)
  pub in_range : is_allowed c ≡ true

pub component_inv : (ts : List ℕ) (t : ℕ) (xs : List ℕ) (c : Component) → component_from ts t xs ≡ Ok c → ComponentRead ts t xs c
component_inv ts t xs c e =
    let (k, found, e₁) = after_inv (found_or (kind_of t) refusal.ComponentType) _ c e in
    let value = value_from k (take (size_of k) xs) in
    let (room, e₂) = refuse_inv (ltb (length xs) (size_of k)) _ _ c e₁ in
    let (apart, e₃) = refuse_inv (clashes (type_of k) ts) _ _ c e₂ in
    let (in_range, e₄) = refuse_inv (not (is_allowed value)) _ (Ok value) c e₃ in
    let is : value ≡ c = cc in
    let same : k ≡ kind_in c = sym (kind_kept k (take (size_of k) xs)) ∙ ap kind_in is in
    record {
      known = found_inv (kind_of t) _ k found ∙ ap (λ x. Some x) same;
      room = rw (← same) (ltb-false (length xs) (size_of k) room);
      apart = rw (← same) apart;
      is = rw (← same) (sym is);
      in_range = ap is_allowed (sym is) ∙ not-false (is_allowed value) in_range;
    }

-- ---- a rule, part by part

abbrev pub components_part : FrameFields → List ℕ → List ℕ
components_part f xs = take f.components (drop 5 xs)

abbrev pub descriptor_part : FrameFields → List ℕ → List ℕ
descriptor_part f xs = take (f.size - (5 + f.components)) (drop (5 + f.components) xs)

module _ (met : ℕ → Bool) (xs : List ℕ) (f : FrameFields) (framed : frame_from xs ≡ Ok f) where
  pub rule_stops : (e : Refusal) → components_in (components_part f xs) ≡ Err e → rule_from met xs ≡ Err e
  rule_stops e r = after_ok _ framed ∙ after_err _ r

  module _ (cs : List Component) (d : Descriptor) (components : components_in (components_part f xs) ≡ Ok cs) (descriptor : descriptor_from (descriptor_part f xs) ≡ Some d) where
    to_last : rule_from met xs ≡ refuse_if (met f.precedence) refusal.Precedence (Ok (record { precedence = f.precedence; components = cs; descriptor = d }, f.size))
    to_last = after_ok _ framed ∙ after_ok _ components ∙ after_ok _ (found_some refusal.Descriptor descriptor)

    pub rule_ok : met f.precedence ≡ false → rule_from met xs ≡ Ok (record { precedence = f.precedence; components = cs; descriptor = d }, f.size)
    rule_ok m = to_last ∙ refuse_not _ _ m
