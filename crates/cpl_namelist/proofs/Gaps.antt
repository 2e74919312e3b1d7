-- Tokens after what separates them.
use Rattle.std.proofs.Common.{◌≡◌, ℕ, zero, suc, ◌+◌, ◌-◌, List, [], ◌∷◌, length, take, drop, Bool, true, false, cond, eqb, Option, Some, None, ◌<◌, refl, sym, ap, ◌∙◌, arith}
use Rattle.std.specs.Prelude.{◌||◌, option_map}
use Rattle.cpl_namelist.specs.declared.token.Cursor.{Cursor}
use Rattle.cpl_namelist.specs.Tokens.{Lexeme, tokens_from, comment_len, form_of, is_blank, is_gap, begins, past_gap, place}

-- the bytes of the token or comment before are passed over
pub tokens_inside : (inside line : ℕ) (bytes : List ℕ) → tokens_from inside line bytes ≡ tokens_from 0 line (drop inside bytes)
unfolding tokens_from
tokens_inside zero line bytes = refl
tokens_inside (suc inside) line [] = refl
tokens_inside (suc inside) line (byte ∷ rest) = tokens_inside inside line rest

passed : (line byte : ℕ) (rest : List ℕ) (fed blank comment : Bool) (p : ℕ × List ℕ) → eqb byte 10 ≡ fed → is_blank byte ≡ blank → eqb byte 33 ≡ comment
    → cond fed (Some (line + 1, rest)) (cond blank (Some (line, rest)) (cond comment (Some (line, drop (comment_len rest) rest)) None)) ≡ Some p
    → tokens_from 0 line (byte ∷ rest) ≡ tokens_from 0 p.0 p.1
unfolding tokens_from
passed line byte rest true blank comment p a b c e = let q : (line + 1, rest) ≡ p = cc in rw (a, ← q) refl
passed line byte rest false true comment p a b c e = let q : (line, rest) ≡ p = cc in rw (a, b, ← q) refl
passed line byte rest false false true p a b c e = let q : (line, drop (comment_len rest) rest) ≡ p = cc in rw (a, b, c, ← q) (tokens_inside (comment_len rest) line rest)
passed line byte rest false false false p a b c e = absurd cc

-- a separator or a comment changes no token
pub tokens_past : (line : ℕ) (bytes : List ℕ) (p : ℕ × List ℕ) → past_gap line bytes ≡ Some p → tokens_from 0 line bytes ≡ tokens_from 0 p.0 p.1
tokens_past line [] p e = absurd cc
tokens_past line (byte ∷ rest) p e = passed line byte rest (eqb byte 10) (is_blank byte) (eqb byte 33) p refl refl refl e

unpassed : (a b c : ℕ × List ℕ) (fed blank comment : Bool) → cond fed (Some a) (cond blank (Some b) (cond comment (Some c) None)) ≡ None
    → ((fed || blank) || comment) ≡ false
unpassed a b c true blank comment e = absurd cc
unpassed a b c false true comment e = absurd cc
unpassed a b c false false true e = absurd cc
unpassed a b c false false false e = refl

-- where none is in front, a token is, or nothing
pub no_gap : (line : ℕ) (bytes : List ℕ) → past_gap line bytes ≡ None → begins is_gap bytes ≡ false
no_gap line [] e = refl
no_gap line (byte ∷ rest) e = unpassed (line + 1, rest) (line, rest) (line, drop (comment_len rest) rest) (eqb byte 10) (is_blank byte) (eqb byte 33) e

token_now : (byte line : ℕ) (rest : List ℕ) (fed blank comment : Bool) → eqb byte 10 ≡ fed → is_blank byte ≡ blank → eqb byte 33 ≡ comment → ((fed || blank) || comment) ≡ false →
    tokens_from 0 line (byte ∷ rest) ≡ (record { kind = (form_of (byte ∷ rest)).kind; line = line; text = take (form_of (byte ∷ rest)).len (byte ∷ rest) } ∷ tokens_from ((form_of (byte ∷ rest)).len - 1) line rest)
unfolding tokens_from
token_now byte line rest true blank comment a b c h = absurd cc
token_now byte line rest false true comment a b c h = absurd cc
token_now byte line rest false false true a b c h = absurd cc
token_now byte line rest false false false a b c h = rw (a, b, c) refl

dropped : (len : ℕ) (byte : ℕ) (rest : List ℕ) → 0 < len → drop (len - 1) rest ≡ drop len (byte ∷ rest)
dropped zero byte rest some = absurd (omega arith)
dropped (suc len) byte rest some = let less : suc len - 1 ≡ len = omega arith in rw less refl

-- a token, where neither a separator nor a comment is in front
pub tokens_token : (line : ℕ) (bytes : List ℕ) → 0 < length bytes → begins is_gap bytes ≡ false → 0 < (form_of bytes).len →
    tokens_from 0 line bytes ≡ (record { kind = (form_of bytes).kind; line = line; text = take (form_of bytes).len bytes } ∷ tokens_from 0 line (drop (form_of bytes).len bytes))
tokens_token line [] any free some = absurd (omega arith)
tokens_token line (byte ∷ rest) any free some =
    token_now byte line rest (eqb byte 10) (is_blank byte) (eqb byte 33) refl refl refl free
    ∙ ap (λ (ts : List Lexeme). record { kind = (form_of (byte ∷ rest)).kind; line = line; text = take (form_of (byte ∷ rest)).len (byte ∷ rest) } ∷ ts)
    (tokens_inside ((form_of (byte ∷ rest)).len - 1) line rest ∙ ap (tokens_from 0 line) (dropped (form_of (byte ∷ rest)).len byte rest some))

-- no text, no token
pub tokens_none : (line : ℕ) (bytes : List ℕ) → length bytes ≡ 0 → tokens_from 0 line bytes ≡ []
unfolding tokens_from
tokens_none line [] e = refl
tokens_none line (byte ∷ rest) e = absurd (omega arith)

-- the value in an option that is seen
pub seen_some : (o : Option Cursor) (c : Cursor) (line : ℕ) (bytes : List ℕ) → o ≡ Some c → option_map place o ≡ past_gap line bytes → past_gap line bytes ≡ Some (c.line, c.rest.now)
seen_some None c line bytes is e = absurd cc
seen_some (Some d) c line bytes is e = let same : d ≡ c = cc in sym e ∙ ap (λ x. option_map place (Some x)) same

pub seen_none : (o : Option Cursor) (line : ℕ) (bytes : List ℕ) → o ≡ None → option_map place o ≡ past_gap line bytes → past_gap line bytes ≡ None
seen_none None line bytes is e = sym e
seen_none (Some d) line bytes is e = absurd cc
