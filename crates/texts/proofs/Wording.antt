-- Laws of rules in words.
use Rattle.std.proofs.Common.{◌≡◌, ℕ, ◌+◌, ◌-◌, ◌*◌, ◌/◌, ◌^◌, ◌<◌, ◌≤◌, min, List, [], ◌++◌, length, get_or, take, drop, codes, sym, refl, ap, ◌∙◌, append_assoc, add-one, arith, length-drop}
use Rattle.std.proofs.lemmas.List.{flat_map_more, take_more, take_at, drop_at, drop-drop}
use Rattle.std.specs.Int.{w32, to_be_bytes}
use Rattle.std.specs.declared.net.ipv4_addr.Ipv4Addr.{Ipv4Addr}
use Rattle.std.specs.Net.Addr.{ipv4_octets, IsIpv4OfBits}
use Rattle.std.specs.Net.Text.{ipv4_text}
use Rattle.octets.specs.Numbers.{be}
use Rattle.texts.specs.Words.{component_words, components_words, dotted, colon, groups}
use Rattle.texts.specs.Hexes.{hex_of}
use Rattle.rules.specs.declared.component.Component.{Component}

-- one component more
pub components_more : (cs : List Component) (i : ℕ) (d : Component) → i < length cs → components_words (take i cs) ++ (codes ", " ++ component_words (get_or cs i d)) ≡ components_words (take (i + 1) cs)
components_more cs i d h = flat_map_more (λ c. codes ", " ++ component_words c) [] (take i cs) (get_or cs i d) ∙ ap components_words (sym (take_more cs i d h))

-- an address as it is printed
pub dotted_four : (a : Ipv4Addr) (n : ℕ) → IsIpv4OfBits a n → ipv4_text (ipv4_octets a) ≡ dotted (be 4 n)
unfolding IsIpv4OfBits
dotted_four a n e =
    let two : n / 256 ^ 2 ≡ n / 256 / 256 = omega arith in
    let three : n / 256 ^ 3 ≡ n / 256 / 256 / 256 = omega arith in
    let same : to_be_bytes w32 n ≡ be 4 n = rw (two, three) refl in
    ap ipv4_text (e ∙ same) ∙ simp append_assoc refl

-- one group more of 16 octets
pub group_step : (octets rest group behind : List ℕ) (n : ℕ) → length octets ≡ 16 → rest ≡ drop (2 * n) octets → rest ≡ group ++ behind → length group ≡ min 2 (length rest) → 0 < length rest
    → (n + 1 ≤ 8) × (behind ≡ drop (2 * (n + 1)) octets) × (group ≡ take 2 (drop (2 * n) octets))
group_step octets rest group behind n all left parts size some =
    let l : length rest ≡ 16 - 2 * n = ap length left ∙ length-drop (2 * n) octets ∙ ap (λ k. k - 2 * n) all in
    let two : length group ≡ 2 = omega arith in
    let more : 2 * (n + 1) ≡ 2 * n + 2 = omega arith in (
      omega arith,
      sym (drop_at group behind 2 two) ∙ ap (drop 2) (sym parts ∙ left) ∙ drop-drop 2 (2 * n) octets ∙ ap (λ k. drop k octets) (sym more),
      sym (take_at group behind 2 two) ∙ ap (take 2) (sym parts ∙ left),
    )

pub group_more : (octets group before : List ℕ) (n i m : ℕ) → before ≡ colon i → i ≡ n → m ≡ n + 1 → group ≡ take 2 (drop (2 * n) octets) → groups n octets ++ (before ++ hex_of group) ≡ groups m octets
group_more octets group before n i m b same next g = rw (next, add-one, b, same, g) refl
