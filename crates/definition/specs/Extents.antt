-- How far a definition reaches, and what bars it: "`` `define`` writes nothing up to, not including, the newline that
-- ends it"; "At a token 2 to 6 come first, also in a list or a directive (a definition .. whole); of several the smallest".
-- Assumes nothing.
use Rattle.std.specs.Prelude.{ℕ, cond, List, [], ◌∷◌, eqb, leb, ltb}
use Rattle.lex.specs.Tokens.{in_file, in_definition, mark_bar, is_mark, tokens}
use Rattle.lex.specs.Faults.{fault, no_fault, fault_of, worse_of, Unbarred}
use Rattle.lex.specs.declared.Token.{Token}
use Rattle.lex.specs.declared.Fault.{Fault}
use Rattle.definition.specs.declared.Extent.{Extent}

-- the first mark, as what bars it outside macro text
abbrev pub mark_of : Fault → Token → Fault
mark_of f t = cond (eqb f.number 0) (cond (is_mark t) (fault (mark_bar in_file) t.at) no_fault) f

-- the extent of tokens behind e, with what bars those before and the first mark among them
unfoldable pub extent_in : ℕ → Fault → Fault → List Token → Extent
extent_in e bars mark [] = record { end = e; bars = bars; mark = mark }
extent_in e bars mark (t ∷ ts) = extent_in t.end (worse_of bars (fault_of t)) (mark_of mark t) ts

-- of the definition whose word `define` ends at i
unfoldable pub extent_at : List ℕ → ℕ → Extent
extent_at s i = extent_in i no_fault no_fault (tokens in_definition s i)

-- what bars a definition whose macro text begins at x, where a mark before x bars too
unfoldable pub bars_of : Extent → ℕ → Fault
bars_of w x =
    cond (leb x w.mark.place) w.bars
    (cond (ltb w.bars.place w.mark.place) (worse_of w.bars w.mark)
    (worse_of w.mark w.bars))

-- nothing bars a definition from i on
abbrev pub Free : List ℕ → ℕ → Type 0
Free s i = Unbarred (tokens in_definition s i)
