-- A component's value, there and back.
use Rattle.std.proofs.Common.{◌≡◌, ℕ, ◌+◌, ◌^◌, ◌<◌, ◌≤◌, true, ◌&&◌, leb, List, [], ◌∷◌, ◌++◌, length, get_or, take, drop, Some, sym, refl, ap, ◌∙◌, ap₂, arith}
use Rattle.std.specs.Int.Digits.{number_from_digits}
use Rattle.std.proofs.lemmas.List.{drop_at, take_at, take_all, length-take-le, length-drop, take-append-drop, drop_more, drop_all}
use Rattle.std.proofs.lemmas.Bool.{and_parts, ltb-true}
use Rattle.octets.specs.Numbers.{Octets, be}
use Rattle.octets.proofs.Numbers.{number_be, be_number, length-be, octets_take, octets_drop}
use Rattle.rules.specs.Components.{type_of, kind_of, kind_in, holds, is_allowed}
use Rattle.rules.specs.declared.component.Kind.{Kind}
use Rattle.rules.specs.declared.component.Kind.TheVariants as kind
use Rattle.rules.specs.declared.component.Component.{Component}
use Rattle.rules.specs.declared.component.Component.TheVariants.{MatchAll, Ipv4, Ipv6, Protocol, Port, PortRange, SecurityIndex, ServiceType, FlowLabel}
use Rattle.layouts.specs.Layout.{value_octets}
use Rattle.layouts.specs.Reading.{field, size_of, value_from}

pub kind_known : (k : Kind) → kind_of (type_of k) ≡ Some k
kind_known kind.MatchAll = refl
kind_known kind.Ipv4 = refl
kind_known kind.Ipv6 = refl
kind_known kind.Protocol = refl
kind_known kind.Port = refl
kind_known kind.PortRange = refl
kind_known kind.SecurityIndex = refl
kind_known kind.ServiceType = refl
kind_known kind.FlowLabel = refl

-- ---- from a number to its octets and back

-- the first field of two
front_field : (w n : ℕ) (rest : List ℕ) → n < 256 ^ w → field 0 w (be w n ++ rest) ≡ n
front_field w n rest h = ap (number_from_digits 256) (take_at (be w n) rest w (length-be w n)) ∙ number_be w n h

-- the second
back_field : (v w m n : ℕ) → n < 256 ^ w → field v w (be v m ++ be w n) ≡ n
back_field v w m n h =
    ap (λ l. number_from_digits 256 (take w l)) (drop_at (be v m) (be w n) v (length-be v m))
    ∙ ap (number_from_digits 256) (take_all w (be w n) (omega (arith, length-be w n))) ∙ number_be w n h

only_field : (w n : ℕ) → n < 256 ^ w → field 0 w (be w n) ≡ n
only_field w n h = ap (number_from_digits 256) (take_all w (be w n) (omega (arith, length-be w n))) ∙ number_be w n h

fits : (w n : ℕ) → holds w n ≡ true → n < 256 ^ w
fits w n h = ltb-true n (256 ^ w) h

pub value_written : (c : Component) → is_allowed c ≡ true → value_from (kind_in c) (value_octets c) ≡ c
value_written MatchAll h = refl
value_written (Ipv4 a m) h =
    let p = and_parts (holds 4 a) (holds 4 m) h in
    ap₂ Ipv4 (front_field 4 a (be 4 m) (fits 4 a p.0)) (back_field 4 4 a m (fits 4 m p.1))
value_written (Ipv6 a n) h =
    let p = and_parts (holds 16 a) (leb n 128) h in
    ap (λ x. Ipv6 x n) (front_field 16 a (n ∷ []) (fits 16 a p.0))
value_written (Protocol n) h = refl
value_written (Port n) h = ap Port (only_field 2 n (fits 2 n h))
value_written (PortRange l u) h =
    let p = and_parts (holds 2 l) (holds 2 u && leb l u) h in
    let q = and_parts (holds 2 u) (leb l u) p.1 in
    ap₂ PortRange (front_field 2 l (be 2 u) (fits 2 l p.0)) (back_field 2 2 l u (fits 2 u q.0))
value_written (SecurityIndex i) h = ap SecurityIndex (only_field 4 i (fits 4 i h))
value_written (ServiceType v m) h = refl
value_written (FlowLabel l) h = ap FlowLabel (only_field 3 l (omega (arith, ltb-true l (2 ^ 20) h)))

-- ---- from octets to the number and back

front_octets : (w : ℕ) (v : List ℕ) → w ≤ length v → Octets v → be w (field 0 w v) ≡ take w v
front_octets w v l o = be_number w (take w v) (length-take-le w v l) (octets_take w v o)

back_octets : (i w : ℕ) (v : List ℕ) → length v ≡ i + w → Octets v → be w (field i w v) ≡ drop i v
back_octets i w v l o =
    let whole : take w (drop i v) ≡ drop i v = take_all w (drop i v) (omega (arith, length-drop i v)) in
    ap (λ x. be w (number_from_digits 256 x)) whole ∙ be_number w (drop i v) (omega (arith, length-drop i v)) (octets_drop i v o)

both : (i w : ℕ) (v : List ℕ) → length v ≡ i + w → Octets v → be i (field 0 i v) ++ be w (field i w v) ≡ v
both i w v l o = (λ j. front_octets i v (omega arith) o j ++ back_octets i w v l o j) ∙ take-append-drop i v

one : (w : ℕ) (v : List ℕ) → length v ≡ w → Octets v → be w (field 0 w v) ≡ v
one w v l o = front_octets w v (omega arith) o ∙ take_all w v (omega arith)

-- the octets from place i on, of which there is one
last_octet : (i : ℕ) (v : List ℕ) → length v ≡ i + 1 → get_or v i 0 ∷ [] ≡ drop i v
last_octet i v l = sym (drop_more v i 0 (omega arith) ∙ ap (λ r. get_or v i 0 ∷ r) (drop_all (i + 1) v (omega arith)))

pub value_read : (k : Kind) (v : List ℕ) → length v ≡ size_of k → Octets v → value_octets (value_from k v) ≡ v
value_read kind.MatchAll v l o = sym (drop_all 0 v (omega arith))
value_read kind.Ipv4 v l o = both 4 4 v l o
value_read kind.Ipv6 v l o = (λ j. front_octets 16 v (omega arith) o j ++ last_octet 16 v l j) ∙ take-append-drop 16 v
value_read kind.Protocol v l o = last_octet 0 v l
value_read kind.Port v l o = one 2 v l o
value_read kind.PortRange v l o = both 2 2 v l o
value_read kind.SecurityIndex v l o = one 4 v l o
value_read kind.ServiceType v l o = ap (λ r. get_or v 0 0 ∷ r) (last_octet 1 v l) ∙ sym (drop_more v 0 0 (omega arith))
value_read kind.FlowLabel v l o = one 3 v l o

pub size_small : (k : Kind) → size_of k ≤ 17
size_small kind.MatchAll = omega arith
size_small kind.Ipv4 = omega arith
size_small kind.Ipv6 = omega arith
size_small kind.Protocol = omega arith
size_small kind.Port = omega arith
size_small kind.PortRange = omega arith
size_small kind.SecurityIndex = omega arith
size_small kind.ServiceType = omega arith
size_small kind.FlowLabel = omega arith
