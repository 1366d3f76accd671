-- One rule, there and back.
use Rattle.std.proofs.Common.{◌≡◌, ℕ, zero, suc, ◌+◌, ◌-◌, ◌*◌, ◌<◌, ◌≤◌, Bool, true, false, not, ◌&&◌, ◌||◌, eqb, ltb, leb, ◌⊎◌, List, [], ◌∷◌, ◌++◌, length, get_or, take, drop, Some, Ok, sym, refl, ap, ◌∙◌, ap₂, inl, inr, ⊎_elim, append_assoc, arith}
use Rattle.std.proofs.lemmas.List.{drop_at, drop-drop, drop-take, length-append, length-take-le, take_at, take-append-drop, take-take}
use Rattle.std.proofs.lemmas.Bool.{and_from, and_parts, eq-eqb, eqb-false, eqb-true, le-leb, le-ltb, leb-true, lt-ltb, ltb-false, ltb-true, ne_eqb, not-false, not_from_true, or_cases, or_from, or_left, or_parts, or_right}
use Rattle.octets.specs.Numbers.{Octets, be}
use Rattle.octets.proofs.Numbers.{be_number, number_be, octets_drop, octets_take}
use Rattle.terms.specs.Replies.{refuse_if, after, found_or}
use Rattle.terms.specs.declared.refusal.Refusal.TheVariants as refusal
use Rattle.terms.proofs.Replies.{after_ok, after_inv, refuse_not, refuse_inv, found_inv}
use Rattle.rules.specs.Components.{kind_in, holds, is_allowed}
use Rattle.rules.specs.Descriptors.{is_allowed_mode}
use Rattle.rules.specs.Rules.{SteeringRule, every, distinct, types_in, all_alone, sound_components, sound_rule}
use Rattle.rules.specs.declared.component.Component.{Component}
use Rattle.rules.specs.declared.descriptor.Descriptor.{Descriptor}
use Rattle.rules.proofs.Sound.{few_components}
use Rattle.layouts.specs.Layout.{component_octets, components_octets, descriptor_octets, rule_body, rule_octets}
use Rattle.layouts.specs.Reading.{FrameFields, field, components_from, components_in, descriptor_from, frame_from, rule_from}
use Rattle.layouts.proofs.Accepts.{components_part, descriptor_part, length_value, rule_ok}
use Rattle.layouts.proofs.Descriptions.{descriptor_written, descriptor_read, length_information}
use Rattle.layouts.proofs.Values.{size_small}
use Rattle.layouts.proofs.Trips.{ComponentsRead, components_written, components_read}

-- ---- how long a sound rule is

components_small : (cs : List Component) → length (components_octets cs) ≤ 18 * length cs
components_small [] = omega arith
components_small (c ∷ cs) = omega (arith, length-append (component_octets c) (components_octets cs), length_value c, size_small (kind_in c), components_small cs)

-- the sentences of a sound rule
pub record SoundParts (r : SteeringRule) : Type 0 where
  pub precedence : r.precedence < 256
  pub some : 1 ≤ length r.components
  pub differ : distinct (types_in r.components) ≡ true
  pub alone : all_alone (types_in r.components) ≡ true
  pub values : every is_allowed r.components ≡ true
  pub mode : is_allowed_mode r.descriptor.mode ≡ true

pub sound_parts : (r : SteeringRule) → sound_rule r ≡ true → SoundParts r
sound_parts r h =
    let cs = r.components in
    let a = and_parts (holds 1 r.precedence) (sound_components cs && is_allowed_mode r.descriptor.mode) h in
    let b = and_parts (sound_components cs) (is_allowed_mode r.descriptor.mode) a.1 in
    let c = and_parts (leb 1 (length cs)) (distinct (types_in cs) && (all_alone (types_in cs) && every is_allowed cs)) b.0 in
    let d = and_parts (distinct (types_in cs)) (all_alone (types_in cs) && every is_allowed cs) c.1 in
    let e = and_parts (all_alone (types_in cs)) (every is_allowed cs) d.1 in
    record {
      precedence = ltb-true r.precedence 256 a.0;
      some = leb-true 1 (length cs) c.0;
      differ = d.0;
      alone = e.0;
      values = e.1;
      mode = b.1;
    }

pub parts_sound : (r : SteeringRule) → SoundParts r → sound_rule r ≡ true
parts_sound r p =
    and_from _ _ (lt-ltb r.precedence 256 p.precedence)
    (and_from _ _ (and_from _ _ (le-leb 1 _ p.some) (and_from _ _ p.differ (and_from _ _ p.alone p.values))) p.mode)

-- ---- the frame

fills : (n m : ℕ) → (n ≡ m + 6) ⊎ (n ≡ m + 7) → not (eqb n (m + 6) || eqb n (m + 7)) ≡ false
fills n m e = not_from_true _ (⊎_elim (λ p. or_left (eqb n (m + 6)) _ (eq-eqb _ _ p)) (λ p. or_right (eqb n (m + 6)) _ (eq-eqb _ _ p)) e)

frame_ok : (xs : List ℕ) (n m : ℕ) → field 0 2 xs ≡ n → field 3 2 xs ≡ m → 3 ≤ n → 2 + n ≤ length xs → (n ≡ m + 6) ⊎ (n ≡ m + 7)
    → frame_from xs ≡ Ok (record { precedence = get_or xs 2 0; components = m; size = 2 + n })
frame_ok xs n m e f some inside full =
    refuse_not _ _ (le-ltb (length xs) 2 (omega arith))
    ∙ refuse_not _ _ (or_from _ _ (le-ltb _ 3 (omega (arith, e))) (le-ltb (length xs) _ (omega (arith, e))))
    ∙ refuse_not _ _ (ap₂ (λ a b. not (eqb a (b + 6) || eqb a (b + 7))) e f ∙ fills n m full)
    ∙ ap₂ (λ a b. Ok (record { precedence = get_or xs 2 0; components = a; size = 2 + b })) f e

-- what a frame that was read shows
record FrameRead (xs : List ℕ) (f : FrameFields) : Type 0 where
  precedence : f.precedence ≡ get_or xs 2 0
  components : f.components ≡ field 3 2 xs
  size : f.size ≡ 2 + field 0 2 xs
  inside : f.size ≤ length xs
  full : (f.size ≡ f.components + 8) ⊎ (f.size ≡ f.components + 9)

frame_inv : (xs : List ℕ) (f : FrameFields) → frame_from xs ≡ Ok f → FrameRead xs f
frame_inv xs f e =
    let n = field 0 2 xs in
    let m = field 3 2 xs in
    let (two, e₁) = refuse_inv (ltb (length xs) 2) _ _ f e in
    let (room, e₂) = refuse_inv (ltb n 3 || ltb (length xs) (2 + n)) _ _ f e₁ in
    let (full, e₃) = refuse_inv (not (eqb n (m + 6) || eqb n (m + 7))) _ _ f e₂ in
    let is : record { precedence = get_or xs 2 0; components = m; size = 2 + n } ≡ f = cc in
    let components : f.components ≡ m = ap (λ x. x.components) (sym is) in
    let size : f.size ≡ 2 + n = ap (λ x. x.size) (sym is) in
    let in-xs = ltb-false (length xs) (2 + n) (or_parts (ltb n 3) (ltb (length xs) (2 + n)) room).1 in
    record {
      precedence = ap (λ x. x.precedence) (sym is);
      components = components;
      size = size;
      inside = omega (arith, in-xs, size);
      full = ⊎_elim (λ p. inl (omega (arith, eqb-true n (m + 6) p, components, size))) (λ p. inr (omega (arith, eqb-true n (m + 7) p, components, size)))
          (or_cases (eqb n (m + 6)) (eqb n (m + 7)) (not-false _ full));
    }

-- ---- what is written is read back

module _ (r : SteeringRule) (rest : List ℕ) (sound : sound_rule r ≡ true) where
  abbrev cs : List ℕ
  cs = components_octets r.components

  abbrev ds : List ℕ
  ds = descriptor_octets r.descriptor

  abbrev xs : List ℕ
  xs = rule_octets r ++ rest

  parts : SoundParts r
  parts = sound_parts r sound

  few : length cs ≤ 144
  few = omega (arith, components_small r.components, few_components r.components parts.differ parts.alone)

  body : length (rule_body r) ≡ 3 + (length cs + length ds)
  body = omega (arith, length-append cs ds)

  short : length ds ≤ 4
  short = ⊎_elim (λ e. omega arith) (λ e. omega arith) (length_information r.descriptor.mode)

  whole_length : field 0 2 xs ≡ length (rule_body r)
  whole_length = number_be 2 (length (rule_body r)) (omega (arith, few, body, short))

  components_length : field 3 2 xs ≡ length cs
  components_length = number_be 2 (length cs) (omega (arith, few))

  abbrev frame : FrameFields
  frame = record { precedence = r.precedence; components = length cs; size = 2 + length (rule_body r) }

  framed : frame_from xs ≡ Ok frame
  framed =
      frame_ok xs (length (rule_body r)) (length cs) whole_length components_length (omega (arith, body)) (omega (arith, length-append cs ds, length-append (cs ++ ds) rest))
      (⊎_elim (λ e. inl (omega (arith, body, e))) (λ e. inr (omega (arith, body, e))) (length_information r.descriptor.mode))

  behind : (cs ++ ds) ++ rest ≡ cs ++ (ds ++ rest)
  behind = append_assoc cs ds rest

  components_part_is : components_part frame xs ≡ cs
  components_part_is = ap (take (length cs)) behind ∙ take_at cs (ds ++ rest) _ refl

  descriptor_part_is : descriptor_part frame xs ≡ ds
  descriptor_part_is =
      let tail : drop (5 + length cs) xs ≡ ds ++ rest = sym (drop-drop (length cs) 5 xs) ∙ ap (drop (length cs)) behind ∙ drop_at cs (ds ++ rest) _ refl in
      let left : (2 + length (rule_body r)) - (5 + length cs) ≡ length ds = omega (arith, body) in
      (λ i. take (left i) (tail i)) ∙ take_at ds rest _ refl

  components_back : components_in (components_part frame xs) ≡ Ok r.components
  components_back =
      ap components_in components_part_is
      ∙ after_ok _ (components_written r.components [] parts.values parts.differ parts.alone)
      ∙ refuse_not _ _ (ne_eqb (length r.components) 0 (λ e. omega (arith, e, parts.some)))

  pub rule_written : (met : ℕ → Bool) → met r.precedence ≡ false → rule_from met xs ≡ Ok (r, length (rule_octets r))
  rule_written met fresh =
      rule_ok met xs frame framed r.components r.descriptor components_back (ap descriptor_from descriptor_part_is ∙ descriptor_written r.descriptor parts.mode) fresh
      ∙ ap (λ n. Ok (r, n)) (omega arith)

-- ---- what is read is what was written

pub record RuleIsRead (met : ℕ → Bool) (xs : List ℕ) (r : SteeringRule) (n : ℕ) : Type 0 where
  pub octets : rule_octets r ≡ take n xs
  pub inside : n ≤ length xs
  pub sound : sound_rule r ≡ true
  pub fresh : met r.precedence ≡ false

take_two : (m k : ℕ) (ys : List ℕ) → m ≤ k → take m ys ++ take (k - m) (drop m ys) ≡ take k ys
take_two m k ys h =
    let front : take m ys ≡ take m (take k ys) = sym (take-take m k ys h) in
    let whole : m + (k - m) ≡ k = omega arith in
    let back : take (k - m) (drop m ys) ≡ drop m (take k ys) = sym (drop-take m (k - m) ys) ∙ ap (λ n. drop m (take n ys)) whole in
    (λ i. front i ++ back i) ∙ take-append-drop m (take k ys)

-- the octets of a rule, from those of its parts
parts_octets : (xs : List ℕ) (f : FrameFields) (r : SteeringRule) → Octets xs → FrameRead xs f → r.precedence ≡ f.precedence
    → components_octets r.components ≡ components_part f xs → descriptor_octets r.descriptor ≡ descriptor_part f xs → rule_octets r ≡ take f.size xs
parts_octets [] f r o shown p c d = absurd (omega (arith, shown.inside, shown.full))
parts_octets (x₁ ∷ []) f r o shown p c d = absurd (omega (arith, shown.inside, shown.full))
parts_octets (x₁ ∷ (x₂ ∷ [])) f r o shown p c d = absurd (omega (arith, shown.inside, shown.full))
parts_octets (x₁ ∷ (x₂ ∷ (x₃ ∷ []))) f r o shown p c d = absurd (omega (arith, shown.inside, shown.full))
parts_octets (x₁ ∷ (x₂ ∷ (x₃ ∷ (x₄ ∷ [])))) f r o shown p c d = absurd (omega (arith, shown.inside, shown.full))
parts_octets (x₁ ∷ (x₂ ∷ (x₃ ∷ (x₄ ∷ (x₅ ∷ ys))))) f r o shown p c d =
    let xs = x₁ ∷ (x₂ ∷ (x₃ ∷ (x₄ ∷ (x₅ ∷ ys)))) in
    let m = f.components in
    let k = f.size - 5 in
    let cs = components_octets r.components in
    let ds = descriptor_octets r.descriptor in
    let within : m ≤ k = omega (arith, shown.full) in
    let long : k ≤ length ys = omega (arith, shown.inside, shown.full) in
    let left : f.size - (5 + m) ≡ k - m = omega arith in
    let tail : drop (5 + m) xs ≡ drop m ys = sym (drop-drop m 5 xs) in
    let inner : cs ++ ds ≡ take k ys = (λ i. c i ++ (d ∙ (λ j. take (left j) (tail j))) i) ∙ take_two m k ys within in
    let count : length cs ≡ m = ap length c ∙ length-take-le m ys (omega arith) in
    let body : length (rule_body r) ≡ field 0 2 xs = omega (arith, ap length inner, length-take-le k ys long, shown.size, shown.full) in
    let first : be 2 (length (rule_body r)) ≡ x₁ ∷ (x₂ ∷ []) = ap (be 2) body ∙ be_number 2 (x₁ ∷ (x₂ ∷ [])) refl (octets_take 2 xs o) in
    let second : be 2 (length cs) ≡ x₄ ∷ (x₅ ∷ [])
    = ap (be 2) (count ∙ shown.components) ∙ be_number 2 (x₄ ∷ (x₅ ∷ [])) refl (octets_take 2 (drop 3 xs) (octets_drop 3 xs o)) in
    let size : f.size ≡ suc (suc (suc (suc (suc k)))) = omega (arith, shown.full) in
    (λ i. first i ++ ((p ∙ shown.precedence) i ∷ (second i ++ inner i))) ∙ ap (λ n. take n xs) (sym size)

-- all components of a rule
record RowRead (xs : List ℕ) (cs : List Component) : Type 0 where
  octets : components_octets cs ≡ xs
  some : 1 ≤ length cs
  differ : distinct (types_in cs) ≡ true
  alone : all_alone (types_in cs) ≡ true
  values : every is_allowed cs ≡ true

row_of : (ys : List ℕ) (ds es : List Component) → ds ≡ es → eqb (length ds) 0 ≡ false → ComponentsRead [] ys ds → RowRead ys es
row_of ys ds es same some read =
    let all : read.more ≡ es = sym read.is ∙ same in
    record {
      octets = ap components_octets (sym all) ∙ read.octets;
      some = ⊎_elim (λ z. absurd (eqb-false (length ds) 0 some (ap length same ∙ z))) (λ h. h) (cases_zero (length es));
      differ = ap (λ l. distinct (types_in l)) (sym same) ∙ read.differ;
      alone = ap (λ l. all_alone (types_in l)) (sym same) ∙ read.alone;
      values = ap (every is_allowed) (sym all) ∙ read.values;
    }
  where
    cases_zero : (n : ℕ) → (n ≡ 0) ⊎ (1 ≤ n)
    cases_zero zero = inl refl
    cases_zero (suc n) = inr (omega arith)

row_read : (ys : List ℕ) (es : List Component) → Octets ys → components_in ys ≡ Ok es → RowRead ys es
row_read ys es o e =
    let (ds, rowed, e₁) = after_inv (components_from [] 0 ys) _ es e in
    let (some, e₂) = refuse_inv (eqb (length ds) 0) refusal.Components (Ok ds) es e₁ in
    row_of ys ds es (cc) some (components_read [] 0 ys ds o refl refl rowed)

-- what the parts of a rule were read as
record PartsRead (met : ℕ → Bool) (xs : List ℕ) (r : SteeringRule) (n : ℕ) (f : FrameFields) : Type 0 where
  framed : frame_from xs ≡ Ok f
  components : components_in (components_part f xs) ≡ Ok r.components
  descriptor : descriptor_from (descriptor_part f xs) ≡ Some r.descriptor
  fresh : met f.precedence ≡ false
  precedence : r.precedence ≡ f.precedence
  size : n ≡ f.size

module _ (met : ℕ → Bool) (ys : List ℕ) (r : SteeringRule) (n : ℕ) where
  last_inv : (f : FrameFields) (es : List Component) (d : Descriptor) → frame_from ys ≡ Ok f → components_in (components_part f ys) ≡ Ok es → descriptor_from (descriptor_part f ys) ≡ Some d
      → refuse_if {A = SteeringRule × ℕ} (met f.precedence) refusal.Precedence (Ok (record { precedence = f.precedence; components = es; descriptor = d }, f.size)) ≡ Ok (r, n)
      → PartsRead met ys r n f
  last_inv f es d shown components descriptor e =
      let (fresh, e₁) = refuse_inv (met f.precedence) refusal.Precedence _ (r, n) e in
      let whole : SteeringRule = record { precedence = f.precedence; components = es; descriptor = d } in
      let is : ◌≡◌ {A = SteeringRule × ℕ} (whole, f.size) (r, n) = cc in
      record {
        framed = shown;
        components = components ∙ ap (λ x. Ok x.0.components) is;
        descriptor = descriptor ∙ ap (λ x. Some x.0.descriptor) is;
        fresh = fresh;
        precedence = ap (λ x. x.0.precedence) (sym is);
        size = ap (λ x. x.1) (sym is);
      }

  descriptor_inv : (f : FrameFields) (es : List Component) → frame_from ys ≡ Ok f → components_in (components_part f ys) ≡ Ok es
      → after {B = SteeringRule × ℕ} (found_or (descriptor_from (descriptor_part f ys)) refusal.Descriptor) (λ d. refuse_if {A = SteeringRule × ℕ} (met f.precedence) refusal.Precedence (Ok (record { precedence = f.precedence; components = es; descriptor = d }, f.size))) ≡ Ok (r, n)
      → PartsRead met ys r n f
  descriptor_inv f es shown components e =
      let (d, found, e₁) = after_inv (found_or (descriptor_from (descriptor_part f ys)) refusal.Descriptor) _ (r, n) e in
      last_inv f es d shown components (found_inv _ refusal.Descriptor d found) e₁

  rule_inv : rule_from met ys ≡ Ok (r, n) → (f : FrameFields) × PartsRead met ys r n f
  rule_inv e =
      let (f, shown, e₁) = after_inv (frame_from ys) _ (r, n) e in
      let (es, found, e₂) = after_inv (components_in (components_part f ys)) _ (r, n) e₁ in
      (f, descriptor_inv f es shown found e₂)

  pub rule_read : Octets ys → rule_from met ys ≡ Ok (r, n) → RuleIsRead met ys r n
  rule_read o e = of_parts (rule_inv e).0 (rule_inv e).1
    where
      of_parts : (f : FrameFields) → PartsRead met ys r n f → RuleIsRead met ys r n
      of_parts f p =
          let shown = frame_inv ys f p.framed in
          let row = row_read (components_part f ys) r.components (octets_take f.components (drop 5 ys) (octets_drop 5 ys o)) p.components in
          let described = descriptor_read (descriptor_part f ys) r.descriptor p.descriptor in
          let byte : r.precedence < 256 = ap_lt (p.precedence ∙ shown.precedence) (o 2) in
          record {
            octets = parts_octets ys f r o shown p.precedence row.octets described.0 ∙ ap (λ k. take k ys) (sym p.size);
            inside = omega (arith, shown.inside, p.size);
            sound = parts_sound r (record { precedence = byte; some = row.some; differ = row.differ; alone = row.alone; values = row.values; mode = described.1 });
            fresh = ap met p.precedence ∙ p.fresh;
          }
        where
          ap_lt : {a b : ℕ} → a ≡ b → b < 256 → a < 256
          ap_lt {a} {b} q h = omega arith
