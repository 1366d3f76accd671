-- Replies in a row: the first refusal ends it.
use Rattle.std.specs.Prelude.{Bool, true, false, Some, None, Ok, Err, Option, Result}
use Rattle.terms.specs.declared.refusal.Refusal.{Refusal}

-- refused by e if the test is true, and else the reply that follows
abbrev pub refuse_if : {A : Type 0} → Bool → Refusal → Result A Refusal → Result A Refusal
refuse_if true e r = Err e
refuse_if false e r = r

-- what follows a result
abbrev pub after : {A B : Type 0} → Result A Refusal → (A → Result B Refusal) → Result B Refusal
after (Ok x) f = f x
after (Err e) f = Err e

-- refused by e if there is none
abbrev pub found_or : {A : Type 0} → Option A → Refusal → Result A Refusal
found_or (Some x) e = Ok x
found_or None e = Err e

-- a result seen through f
abbrev pub seen_as : {A B : Type 0} → (A → B) → Result A Refusal → Result B Refusal
seen_as f (Ok x) = Ok (f x)
seen_as f (Err e) = Err e
