-- Chains of macros, and the usages that demand 3 speaks of.
-- Assumes nothing.
use Rattle.std.specs.Prelude.{ℕ, zero, suc, max, Bool, true, false, not, ◌&&◌, List, [], ◌∷◌, length, Result, Ok, Err}
use Rattle.definition.specs.Definitions.{Macro}
use Rattle.store.specs.Stores.{macro_at, find}
use Rattle.pending.specs.Pending.{Pending, is_call, view}
use Rattle.replace.specs.Replacing.{Listed, barred, listed, list_for}
use Rattle.passing.specs.Passing.{formals_of, uses}

unfoldable pub longest : (ℕ → ℕ) → List ℕ → ℕ
longest go [] = 0
longest go (k ∷ ks) = max (go k) (longest go ks)

-- the macros in the longest chain from macro i, "each written in the text of the one before", of at most f
unfoldable pub chain_of : List Macro → ℕ → ℕ → ℕ
chain_of ms zero i = 0
chain_of ms (suc f) i = suc (longest (λ k. chain_of ms f k) (uses ms i))

unfoldable pub chain : List Macro → ℕ → ℕ
chain ms i = chain_of ms (length ms) i

unfoldable pub no_usage : List Pending → Bool
no_usage [] = true
no_usage (p ∷ ps) = not (is_call (view p)) && no_usage ps

unfoldable pub no_usages : List (List Pending) → Bool
no_usages [] = true
no_usages (a ∷ xs) = no_usage a && no_usages xs

abbrev pub quiet : Listed → Bool
quiet (barred n i) = false
quiet (listed xs r) = no_usages xs

abbrev pub tame_by : Result ℕ ℕ → List Macro → List Pending → Bool
tame_by (Err i) ms ps = false
tame_by (Ok i) ms ps = quiet (list_for (formals_of (macro_at ms i)) ps)

-- a usage of w, followed by ps: it "names one of them, with an accepted list whose arguments hold no usage of their own"
unfoldable pub tame : List Macro → List ℕ → List Pending → Bool
tame ms w ps = tame_by (find w ms) ms ps

abbrev pub chain_by : Result ℕ ℕ → List Macro → ℕ
chain_by (Err i) ms = 0
chain_by (Ok i) ms = chain ms i

-- "the longest chain from the one used"
unfoldable pub chain_from : List Macro → List ℕ → ℕ
chain_from ms w = chain_by (find w ms) ms
