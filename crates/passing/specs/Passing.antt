-- Pass (01: "Pass answers yes, or the first macro in byte order at fault").
-- Assumes nothing.
use Rattle.std.specs.Prelude.{ℕ, zero, suc, Bool, false, cond, ◌||◌, List, [], ◌∷◌, eqb, length, Result, Ok, Err}
use Rattle.std.proofs.Math.Option.{Option, none, some}
use Rattle.lex.specs.Tokens.{in_text, tokens}
use Rattle.definition.specs.Definitions.{Parameter, Macro, macro}
use Rattle.store.specs.Stores.{macro_text, macro_at, find}
use Rattle.pending.specs.Pending.{Pending, text_tokens, View, on_usage, view}
use Rattle.replace.specs.Replacing.{Listed, barred, listed, list_for}

-- the first of two faults
abbrev pub or_next : Option ℕ → Option ℕ → Option ℕ
or_next none r = r
or_next (some n) r = some n

abbrev pub formals_of : Macro → List Parameter
formals_of (macro n fs t) = fs

-- what bars a list: 14, 15, or 2 to 6 in a file
abbrev pub bar_of : Listed → Option ℕ
bar_of (barred n i) = some n
bar_of (listed xs r) = none

-- "13, 14 or 15": of a usage by where its macro stands, followed by ps
abbrev pub found_fault : Result ℕ ℕ → List Macro → List Pending → Option ℕ
found_fault (Err i) ms ps = some 13
found_fault (Ok i) ms ps = bar_of (list_for (formals_of (macro_at ms i)) ps)

unfoldable pub usage_fault : List Macro → List ℕ → List Pending → Option ℕ
usage_fault ms w ps = found_fault (find w ms) ms ps

abbrev pub fault_of : View → List Macro → List Pending → Option ℕ
fault_of v ms ps = on_usage v none (λ w. usage_fault ms w ps)

-- "for its first bad usage", each with the list that follows it in the whole text
unfoldable pub text_fault : List Macro → List Pending → Option ℕ
text_fault ms [] = none
text_fault ms (p ∷ ps) = or_next (fault_of (view p) ms ps) (text_fault ms ps)

abbrev pub used_by : Result ℕ ℕ → List ℕ → List ℕ
used_by (Err i) r = r
used_by (Ok i) r = i ∷ r

abbrev pub uses_of : View → List Macro → List ℕ → List ℕ
uses_of v ms r = on_usage v r (λ w. used_by (find w ms) r)

-- "those that usages in its text name, also in lists", by their numbers
unfoldable pub uses_in : List Macro → List Pending → List ℕ
uses_in ms [] = []
uses_in ms (p ∷ ps) = uses_of (view p) ms (uses_in ms ps)

-- the tokens of a stored text
abbrev pub tokens_of : List ℕ → List Pending
tokens_of t = text_tokens t [] (tokens in_text t 0)

-- .. of macro i
abbrev pub text_at : List Macro → ℕ → List Pending
text_at ms i = tokens_of (macro_text (macro_at ms i))

abbrev pub uses : List Macro → ℕ → List ℕ
uses ms i = uses_in ms (text_at ms i)

unfoldable pub reaches_any : (ℕ → Bool) → ℕ → List ℕ → Bool
reaches_any go j [] = false
reaches_any go j (k ∷ ks) = (eqb k j || go k) || reaches_any go j ks

-- "reaches these and what they reach": macro i reaches macro j in at most f steps
unfoldable pub reaches : List Macro → ℕ → ℕ → ℕ → Bool
reaches ms zero i j = false
reaches ms (suc f) i j = reaches_any (λ k. reaches ms f k j) j (uses ms i)

-- of macro i: "13, 14 or 15 for its first bad usage, else 16 if it reaches itself"
unfoldable pub macro_fault : List Macro → ℕ → Option ℕ
macro_fault ms i = or_next (text_fault ms (text_at ms i)) (cond (reaches ms (length ms) i i) (some 16) none)

-- yes, or a macro by its number, and the refusal
pub data Passed : Type 0 where
  yes : Passed
  fault : ℕ → ℕ → Passed

abbrev pub pass_at : Option ℕ → ℕ → Passed → Passed
pass_at none i r = r
pass_at (some n) i r = fault i n

-- of k macros from macro i on
unfoldable pub pass_from : List Macro → ℕ → ℕ → Passed
pass_from ms i zero = yes
pass_from ms i (suc k) = let r = pass_from ms (suc i) k in pass_at (macro_fault ms i) i r

-- "the first macro in byte order at fault"
unfoldable pub pass_of : List Macro → Passed
pass_of ms = pass_from ms 0 (length ms)
