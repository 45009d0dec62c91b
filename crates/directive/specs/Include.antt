-- An include's line, read whole: `` `include "n"`` or `<n>`.
-- Assumes nothing.
use Rattle.std.specs.Prelude.{Option, Some, None, ℕ, suc, ◌+◌, ◌-◌, Bool, true, false, cond, not, ◌&&◌, ◌||◌, List, [], ◌∷◌, eqb, drop}
use Rattle.lex.specs.Classes.{is_legal}
use Rattle.lex.specs.Tokens.{in_file, Newline, String, is, is_byte, is_gap, tokens}
use Rattle.lex.specs.Faults.{fault, no_fault, fault_of, worse_of}
use Rattle.lex.specs.declared.Token.{Token}
use Rattle.lex.specs.declared.Fault.{Fault}
use Rattle.directive.specs.Words.{wraps}
use Rattle.directive.specs.declared.FileName.{FileName}
use Rattle.directive.specs.declared.FileName.TheVariants.{Unnamed, Quoted, Angled}
use Rattle.directive.specs.declared.IncludeLine.{IncludeLine}

-- `<n>` "read raw to its `>`": where that stands on the same line, and 2 if a byte before it is illegal
unfoldable pub raw_from : Bool → ℕ → List ℕ → Option (ℕ × ℕ)
raw_from ok i [] = None
raw_from ok i (x ∷ xs) =
    let r = raw_from (ok && is_legal x) (suc i) xs in
    cond (eqb x 62) (Some (i, cond ok 0 2))
    (cond (eqb x 10) None
    r)

unfoldable pub raw_end : List ℕ → ℕ → Option (ℕ × ℕ)
raw_end s i = raw_from true i (drop i s)

-- what bars the line, the file's name, the directive's end, whether "other text" stands behind it
abbrev pub line : Fault → FileName → ℕ → Bool → IncludeLine
line f n e other = record { bars = f; file = n; end = e; other = other }

-- the rest of the line, behind the name n that ends at e; f, other: so far
unfoldable pub behind : List ℕ → FileName → ℕ → Fault → Bool → List Token → IncludeLine
behind s n e f other [] = line f n e other
behind s n e f other (t ∷ ts) =
    let g = worse_of f (fault_of t) in
    let more = other || not (is_gap t) in
    let r = behind s n e g more ts in
    cond (is Newline t) (line f n e other)
    (cond (wraps s t) (line g n e more)
    r)

unfoldable pub behind_at : List ℕ → FileName → ℕ → Fault → IncludeLine
behind_at s n e f = behind s n e f false (tokens in_file s e)

-- `<`, which ends at e and starts the line's first word; without a `>` a token that is no name
abbrev pub angled_by : List ℕ → ℕ → ℕ → Fault → Option (ℕ × ℕ) → IncludeLine
angled_by s i e f (Some (x, n)) = behind_at s (Angled e x) (x + 1) (worse_of f (fault n i))
angled_by s i e f None = behind_at s Unnamed e f

-- the line whose first word is the token t; f: what bars what stands before it
unfoldable pub name_at : List ℕ → Token → Fault → IncludeLine
name_at s t f =
    cond (is_byte s 60 t) (angled_by s t.at t.end f (raw_end s t.end))
    (cond (is String t) (behind_at s (Quoted (t.at + 1) (t.end - 1)) t.end (worse_of f (fault_of t)))
    (behind_at s Unnamed t.end (worse_of f (fault_of t))))

unfoldable pub include_in : List ℕ → ℕ → Fault → List Token → IncludeLine
include_in s i f [] = line f Unnamed i false
include_in s i f (t ∷ ts) =
    let g = worse_of f (fault_of t) in
    let r = include_in s i g ts in
    cond (is Newline t) (line f Unnamed i false)
    (cond (wraps s t) (line g Unnamed i false)
    (cond (not (is_gap t)) (name_at s t f)
    r))

-- the line of the include whose word ends at i
unfoldable pub include_at : List ℕ → ℕ → IncludeLine
include_at s i = include_in s i no_fault (tokens in_file s i)
