-- Rules in a row and whole sheets: what is written is read back, and what is read is what was written.
use Rattle.std.proofs.Common.{◌≡◌, ℕ, zero, suc, ◌+◌, ◌-◌, ◌≤◌, true, false, not, ◌&&◌, ◌||◌, eqb, ltb, leb, List, [], ◌∷◌, ◌++◌, length, get_or, take, drop, Ok, Err, Result, sym, refl, ap, ◌∙◌, append_assoc, append-nil, arith}
use Rattle.std.specs.Int.Digits.{number_from_digits}
use Rattle.std.proofs.lemmas.List.{drop_at, drop-drop, drop_more, get_or_at, length-append, length-drop, length-take-le, map-append, map_push, nil_from_length, take_all, take-append-drop, take_at}
use Rattle.std.proofs.lemmas.Bool.{and_from, and_parts, eqb-false, le-leb, le-ltb, leb-true, ltb-false, ne_eqb, not-true, or_from, or_parts}
use Rattle.octets.specs.Numbers.{Octets, be}
use Rattle.octets.proofs.Numbers.{be_number, number_be, octets_drop, octets_take}
use Rattle.terms.specs.declared.refusal.Refusal.{Refusal}
use Rattle.terms.specs.declared.refusal.Refusal.TheVariants as refusal
use Rattle.terms.proofs.Replies.{after_ok, after_inv, refuse_not, refuse_inv}
use Rattle.rules.specs.Rules.{SteeringRule, elem, every, distinct, sound_rule, sound}
use Rattle.rules.proofs.Sound.{eqb_flip, distinct_push}
use Rattle.layouts.specs.Layout.{rule_octets}
use Rattle.layouts.specs.Reading.{rule_from}
use Rattle.layouts.proofs.RuleTrips.{rule_written, rule_read}
use Rattle.sheets.specs.Law.{Written, Lawful}
use Rattle.sheets.specs.Layout.{rules_octets, trailer, sheet_octets}
use Rattle.sheets.specs.Reading.{precedences, rules_from, count_in, distance_in, heading_in, sheet_from}

-- ---- rules in a row

not_before : (t : ℕ) (ss rest : List ℕ) → distinct (ss ++ (t ∷ rest)) ≡ true → elem t ss ≡ false
not_before t [] rest d = refl
not_before t (s ∷ ss) rest d =
    let p = and_parts (not (elem s (ss ++ (t ∷ rest)))) (distinct (ss ++ (t ∷ rest))) d in
    or_from _ _ (eqb_flip s t (not_in s ss (not-true _ p.0))) (not_before t ss rest p.1)
  where
    not_in : (x : ℕ) (ys : List ℕ) → elem x (ys ++ (t ∷ rest)) ≡ false → eqb x t ≡ false
    not_in x [] e = (or_parts (eqb x t) (elem x rest) e).0
    not_in x (w ∷ ys) e = not_in x ys (or_parts (eqb x w) (elem x (ys ++ (t ∷ rest))) e).1

pub rules_written : (rs before : List SteeringRule) → every sound_rule rs ≡ true → distinct (precedences (before ++ rs)) ≡ true → rules_from (length rs) before (rules_octets rs) ≡ Ok (before ++ rs)
rules_written [] before s d = ap (λ l. Ok l) (sym (append-nil before))
rules_written (r ∷ rs) before s d =
    let p = and_parts (sound_rule r) (every sound_rule rs) s in
    let parts : precedences (before ++ (r ∷ rs)) ≡ precedences before ++ (r.precedence ∷ precedences rs) = map-append (λ x. x.precedence) before (r ∷ rs) in
    let fresh = not_before r.precedence (precedences before) (precedences rs) (rw parts at d) in
    let next : before ++ (r ∷ rs) ≡ (before ++ (r ∷ [])) ++ rs = sym (append_assoc before (r ∷ []) rs) in
    after_ok _ (rule_written r (rules_octets rs) p.0 (λ q. elem q (precedences before)) fresh)
    ∙ ap (rules_from (length rs) (before ++ (r ∷ []))) (drop_at (rule_octets r) (rules_octets rs) _ refl)
    ∙ rules_written rs (before ++ (r ∷ [])) p.1 (rw next at d)
    ∙ ap (λ l. Ok l) (sym next)

-- what rules that were read show
pub record RulesRead (before : List SteeringRule) (n : ℕ) (xs : List ℕ) (rs : List SteeringRule) : Type 0 where
  pub more : List SteeringRule
  pub is : rs ≡ before ++ more
  pub octets : rules_octets more ≡ xs
  pub count : length more ≡ n
  pub sound_rules : every sound_rule more ≡ true
  pub differ : distinct (precedences rs) ≡ true

pub rules_read : (n : ℕ) (before : List SteeringRule) (xs : List ℕ) (rs : List SteeringRule) → Octets xs → distinct (precedences before) ≡ true → rules_from n before xs ≡ Ok rs → RulesRead before n xs rs
rules_read zero before xs rs o d e =
    let (none, e₁) = refuse_inv (ltb 0 (length xs)) refusal.Surplus (Ok before) rs e in
    let same : before ≡ rs = cc in
    record {
      more = [];
      is = sym same ∙ sym (append-nil before);
      octets = sym (nil_from_length xs (omega (arith, ltb-false 0 (length xs) none)));
      count = refl;
      sound_rules = refl;
      differ = ap (λ l. distinct (precedences l)) (sym same) ∙ d;
    }
rules_read (suc n) before xs rs o d e =
    let (x, read, e₁) = after_inv (rule_from (λ p. elem p (precedences before)) xs) _ rs e in
    let shown = rule_read (λ p. elem p (precedences before)) xs x.0 x.1 o read in
    let push : precedences (before ++ (x.0 ∷ [])) ≡ precedences before ++ (x.0.precedence ∷ []) = map_push (λ r. r.precedence) before x.0 in
    let rest = rules_read n (before ++ (x.0 ∷ [])) (drop x.1 xs) rs (octets_drop x.1 xs o) (ap distinct push ∙ distinct_push (precedences before) x.0.precedence d shown.fresh) e₁ in
    record {
      more = x.0 ∷ rest.more;
      is = rest.is ∙ append_assoc before (x.0 ∷ []) rest.more;
      octets = (λ i. shown.octets i ++ rest.octets i) ∙ take-append-drop x.1 xs;
      count = ap suc rest.count;
      sound_rules = and_from _ _ shown.sound rest.sound_rules;
      differ = rest.differ;
    }

-- ---- whole sheets

-- the sentences of a sound set
record SoundParts (rs : List SteeringRule) : Type 0 where
  some : 1 ≤ length rs
  few : length rs ≤ 128
  each : every sound_rule rs ≡ true
  differ : distinct (precedences rs) ≡ true

sound_parts : (rs : List SteeringRule) → sound rs ≡ true → SoundParts rs
sound_parts rs h =
    let a = and_parts (leb 1 (length rs)) (leb (length rs) 128 && (every sound_rule rs && distinct (precedences rs))) h in
    let b = and_parts (leb (length rs) 128) (every sound_rule rs && distinct (precedences rs)) a.1 in
    let c = and_parts (every sound_rule rs) (distinct (precedences rs)) b.1 in
    record { some = leb-true 1 (length rs) a.0; few = leb-true (length rs) 128 b.0; each = c.0; differ = c.1 }

parts_sound : (rs : List SteeringRule) → SoundParts rs → sound rs ≡ true
parts_sound rs p = and_from _ _ (le-leb 1 (length rs) p.some) (and_from _ _ (le-leb (length rs) 128 p.few) (and_from _ _ p.each p.differ))

module _ (h : List ℕ) (rs : List SteeringRule) (sounds : sound rs ≡ true) (limit : length (sheet_octets h rs) ≤ 16384) where
  abbrev body : List ℕ
  body = rules_octets rs

  abbrev xs : List ℕ
  xs = sheet_octets h rs

  parts : SoundParts rs
  parts = sound_parts rs sounds

  long : length xs ≡ length h + (length body + 3)
  long = length-append h (body ++ trailer rs) ∙ omega (arith, length-append body (trailer rs))

  before_trailer : xs ≡ (h ++ body) ++ trailer rs
  before_trailer = sym (append_assoc h body (trailer rs))

  before_distance : xs ≡ ((h ++ body) ++ (length rs ∷ [])) ++ be 2 (length body)
  before_distance = before_trailer ∙ sym (append_assoc (h ++ body) (length rs ∷ []) (be 2 (length body)))

  count_back : count_in xs ≡ length rs
  count_back = ap (λ l. get_or l (length xs - 3) 0) before_trailer ∙ get_or_at (h ++ body) (length rs) (be 2 (length body)) 0 (length xs - 3) (omega (arith, long, length-append h body))

  distance_back : distance_in xs ≡ length body
  distance_back =
      let tail : drop (length xs - 2) xs ≡ be 2 (length body)
      = ap (drop (length xs - 2)) before_distance
      ∙ drop_at ((h ++ body) ++ (length rs ∷ [])) (be 2 (length body)) (length xs - 2) (omega (arith, long, length-append h body, length-append (h ++ body) (length rs ∷ []))) in
      ap (λ l. number_from_digits 256 (take 2 l)) tail ∙ number_be 2 (length body) (omega (arith, long, limit))

  heading_back : heading_in xs ≡ length h
  heading_back = omega (arith, long, distance_back)

  part : take (distance_in xs) (drop (heading_in xs) xs) ≡ body
  part = (λ i. take (distance_back i) (drop (heading_back i) xs)) ∙ ap (take (length body)) (drop_at h (body ++ trailer rs) _ refl) ∙ take_at body (trailer rs) _ refl

  pub sheet_written : sheet_from xs ≡ Ok (length h, rs)
  sheet_written =
      refuse_not _ _ (or_from _ _ (le-ltb (length xs) 3 (omega (arith, long))) (le-ltb 16384 (length xs) limit))
      ∙ refuse_not _ _ (or_from _ _ (ne_eqb (count_in xs) 0 (λ z. omega (arith, z, count_back, parts.some))) (le-ltb 128 (count_in xs) (omega (arith, count_back, parts.few))))
      ∙ refuse_not _ _ (le-ltb (length xs - 3) (distance_in xs) (omega (arith, long, distance_back)))
      ∙ after_ok _ ((λ i. rules_from (count_back i) [] (part i)) ∙ rules_written rs [] parts.each parts.differ)
      ∙ ap (λ n. Ok (n, rs)) heading_back

-- what a sheet that was read shows
module _ (ys : List ℕ) (o : Octets ys) (n : ℕ) (rs : List SteeringRule) where
  abbrev last : ℕ
  last = length ys - 3

  -- the octets, from those of the rules
  whole : 3 ≤ length ys → distance_in ys ≤ last → n ≡ heading_in ys → length rs ≡ count_in ys → rules_octets rs ≡ take (distance_in ys) (drop (heading_in ys) ys) → ys ≡ sheet_octets (take n ys) rs
  whole three inside head count body =
      let d = distance_in ys in
      let k = heading_in ys in
      let next : last + 1 ≡ length ys - 2 = omega arith in
      let room : d ≤ length (drop k ys) = omega (arith, length-drop k ys) in
      let size : length (rules_octets rs) ≡ d = ap length body ∙ length-take-le d (drop k ys) room in
      let two : be 2 d ≡ drop (length ys - 2) ys
      = ap (λ l. be 2 (number_from_digits 256 l)) (take_all 2 (drop (length ys - 2) ys) (omega (arith, length-drop (length ys - 2) ys)))
      ∙ be_number 2 (drop (length ys - 2) ys) (omega (arith, length-drop (length ys - 2) ys)) (octets_drop (length ys - 2) ys o) in
      let tail : trailer rs ≡ drop last ys
      = (λ i. count i ∷ be 2 (size i)) ∙ ap (λ l. count_in ys ∷ l) two ∙ sym (drop_more ys last 0 (omega arith) ∙ ap (λ m. count_in ys ∷ drop m ys) next) in
      let sum : last ≡ k + d = omega arith in
      let rest : rules_octets rs ++ trailer rs ≡ drop k ys
      = (λ i. body i ++ (tail ∙ ap (λ m. drop m ys) sum ∙ sym (drop-drop d k ys)) i) ∙ take-append-drop d (drop k ys) in
      sym ((λ i. take (head i) ys ++ rest i) ∙ take-append-drop k ys)

-- the parts of a sheet that was read
record PartsRead (ys : List ℕ) (n : ℕ) (rs : List SteeringRule) : Type 0 where
  three : 3 ≤ length ys
  limit : length ys ≤ 16384
  some : 1 ≤ count_in ys
  few : count_in ys ≤ 128
  inside : distance_in ys ≤ length ys - 3
  read : rules_from (count_in ys) [] (take (distance_in ys) (drop (heading_in ys) ys)) ≡ Ok rs
  heading : n ≡ heading_in ys

sheet_inv : (ys : List ℕ) (n : ℕ) (rs : List SteeringRule) → sheet_from ys ≡ Ok (n, rs) → PartsRead ys n rs
sheet_inv ys n rs e =
    let c = count_in ys in
    let (size, e₁) = refuse_inv (ltb (length ys) 3 || ltb 16384 (length ys)) refusal.SheetSize _ (n, rs) e in
    let (count, e₂) = refuse_inv (eqb c 0 || ltb 128 c) refusal.RuleCount _ (n, rs) e₁ in
    let (distance, e₃) = refuse_inv (ltb (length ys - 3) (distance_in ys)) refusal.Distance _ (n, rs) e₂ in
    let (qs, read, e₄) = after_inv (rules_from c [] (take (distance_in ys) (drop (heading_in ys) ys))) _ (n, rs) e₃ in
    let is : ◌≡◌ {A = ℕ × List SteeringRule} (heading_in ys, qs) (n, rs) = cc in
    let sizes = or_parts (ltb (length ys) 3) (ltb 16384 (length ys)) size in
    let counts = or_parts (eqb c 0) (ltb 128 c) count in
    record {
      three = ltb-false (length ys) 3 sizes.0;
      limit = ltb-false 16384 (length ys) sizes.1;
      some = pos c (eqb-false c 0 counts.0);
      few = ltb-false 128 c counts.1;
      inside = ltb-false (length ys - 3) (distance_in ys) distance;
      read = read ∙ ap (λ x. Ok x.1) is;
      heading = ap (λ x. x.0) (sym is);
    }
  where
    pos : (m : ℕ) → (m ≡ 0 → ⊥) → 1 ≤ m
    pos zero n = absurd (n refl)
    pos (suc m) n = omega arith

-- rules that were read are a sound set
pub rules_sound : (n : ℕ) (ys : List ℕ) (rs : List SteeringRule) → Octets ys → 1 ≤ n → n ≤ 128 → rules_from n [] ys ≡ Ok rs → sound rs ≡ true
rules_sound n ys rs o some few e =
    let shown = rules_read n [] ys rs o refl e in
    let count : length rs ≡ n = ap length shown.is ∙ shown.count in
    parts_sound rs (record { some = omega arith; few = omega arith; each = ap (every sound_rule) shown.is ∙ shown.sound_rules; differ = shown.differ })

part_octets : (ys : List ℕ) → Octets ys → Octets (take (distance_in ys) (drop (heading_in ys) ys))
part_octets ys o = octets_take (distance_in ys) (drop (heading_in ys) ys) (octets_drop (heading_in ys) ys o)

sheet_read : (ys : List ℕ) (n : ℕ) (rs : List SteeringRule) → Octets ys → sheet_from ys ≡ Ok (n, rs) → (n ≤ length ys) × Written ys (take n ys) rs
sheet_read ys n rs o e =
    let p = sheet_inv ys n rs e in
    let shown = rules_read (count_in ys) [] (take (distance_in ys) (drop (heading_in ys) ys)) rs (part_octets ys o) refl p.read in
    let count : length rs ≡ count_in ys = ap length shown.is ∙ shown.count in
    let octets : rules_octets rs ≡ take (distance_in ys) (drop (heading_in ys) ys) = ap rules_octets shown.is ∙ shown.octets in (
      omega (arith, p.heading),
      record {
        sound_set = rules_sound (count_in ys) (take (distance_in ys) (drop (heading_in ys) ys)) rs (part_octets ys o) p.some p.few p.read;
        layout = whole ys o n rs p.three p.inside p.heading count octets;
        limit = p.limit;
      },
    )

-- a sheet that is written is read so
reads : (ys h : List ℕ) (rs : List SteeringRule) → Written ys h rs → sheet_from ys ≡ Ok (length h, rs)
reads ys h rs w = ap sheet_from w.layout ∙ sheet_written h rs w.sound_set (rw w.layout at w.limit)

-- whatever is read keeps the law
pub lawful : (ys : List ℕ) (r : Result (ℕ × List SteeringRule) Refusal) → Octets ys → r ≡ sheet_from ys → Lawful ys r
lawful ys (Ok x) o e =
    let p = sheet_read ys x.0 x.1 o (sym e) in
    (p.0, p.1, λ h rs w. let is : ◌≡◌ {A = ℕ × List SteeringRule} (length h, rs) (x.0, x.1) = (let q = reads ys h rs w in cc) in (ap (λ y. y.0) is, ap (λ y. y.1) is))
lawful ys (Err d) o e = λ h rs w. let q = reads ys h rs w in let z : ◌≡◌ {A = ℕ} 0 1 = cc in omega arith
