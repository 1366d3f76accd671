-- Laws of replies in a row.
use Rattle.std.proofs.Common.{◌≡◌, ℕ, Bool, true, false, Some, None, Ok, Err, Option, Result, refl, ap, arith}
use Rattle.terms.specs.Replies.{refuse_if, after, found_or}
use Rattle.terms.specs.declared.refusal.Refusal.{Refusal}

module _ {A B : Type 0} where
  pub after_ok : {m : Result A Refusal} {x : A} (f : A → Result B Refusal) → m ≡ Ok x → after m f ≡ f x
  after_ok f e = ap (λ r. after r f) e

  pub after_err : {m : Result A Refusal} {e : Refusal} (f : A → Result B Refusal) → m ≡ Err e → after m f ≡ Err e
  after_err f e = ap (λ r. after r f) e

  -- a result comes of a result before
  pub after_inv : (m : Result A Refusal) (f : A → Result B Refusal) (y : B) → after m f ≡ Ok y → (x : A) × (m ≡ Ok x) × (f x ≡ Ok y)
  after_inv (Ok x) f y e = (x, refl, e)
  after_inv (Err d) f y e = absurd (let z : ◌≡◌ {A = ℕ} 0 1 = cc in omega arith)

module _ {A : Type 0} where
  pub refuse_not : {b : Bool} (e : Refusal) (r : Result A Refusal) → b ≡ false → refuse_if b e r ≡ r
  refuse_not e r p = ap (λ t. refuse_if t e r) p

  pub refuse_so : {b : Bool} (e : Refusal) (r : Result A Refusal) → b ≡ true → refuse_if b e r ≡ Err e
  refuse_so e r p = ap (λ t. refuse_if t e r) p

  pub refuse_inv : (b : Bool) (e : Refusal) (r : Result A Refusal) (y : A) → refuse_if b e r ≡ Ok y → (b ≡ false) × (r ≡ Ok y)
  refuse_inv true e r y p = absurd (let z : ◌≡◌ {A = ℕ} 0 1 = cc in omega arith)
  refuse_inv false e r y p = (refl, p)

  pub found_some : {o : Option A} {x : A} (e : Refusal) → o ≡ Some x → found_or o e ≡ Ok x
  found_some e p = ap (λ o. found_or o e) p

  pub found_inv : (o : Option A) (e : Refusal) (x : A) → found_or o e ≡ Ok x → o ≡ Some x
  found_inv (Some y) e x p = cc
  found_inv None e x p = absurd (let z : ◌≡◌ {A = ℕ} 0 1 = cc in omega arith)
