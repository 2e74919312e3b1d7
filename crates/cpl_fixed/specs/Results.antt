-- What a function returned, against the answer that a definition gives.
use Rattle.std.specs.Prelude.{◌≡◌, Bool, Result, Ok, Err}
use Rattle.std.specs.Bool.{OnFalse}

-- the next part of an answer, or the fault of the part before
infixl 10 ◌>>=◌
abbrev pub ◌>>=◌ : {A B E : Type 0} → Result A E → (A → Result B E) → Result B E
(Ok x) >>= f = f x
(Err fault) >>= f = Err fault

-- This fault is the answer's. A fault that is free, as out of memory, may come in place of any answer.
abbrev pub Fails : {Y E : Type 0} → (E → Bool) → E → Result Y E → Type 0
Fails free fault answer = OnFalse (free fault) (answer ≡ Err fault)

-- What was returned, seen by `view`, is this answer, unless its fault is free.
abbrev pub Gives : {X Y E : Type 0} → (E → Bool) → (X → Y) → Result X E → Result Y E → Type 0
Gives free view (Ok x) answer = answer ≡ Ok (view x)
Gives free view (Err fault) answer = Fails free fault answer

-- What was returned is this answer, unless its fault is free.
abbrev pub Returns : {X E : Type 0} → (E → Bool) → Result X E → Result X E → Type 0
Returns free returned answer = Gives free (λ x. x) returned answer
