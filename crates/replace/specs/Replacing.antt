-- One replacement: a usage with its list gives way to its macro's text with the arguments in place.
-- Assumes nothing.
use Rattle.std.specs.Prelude.{ℕ, zero, suc, max, Bool, true, false, cond, ◌&&◌, List, [], ◌∷◌, ◌++◌, length, Result, Ok, Err}
use Rattle.std.proofs.Math.Option.{Option, none, some}
use Rattle.text.specs.Bytes.{same}
use Rattle.lex.specs.Tokens.{in_file, in_text, tokens}
use Rattle.definition.specs.Definitions.{Parameter, parameter, Macro, macro}
use Rattle.sets.specs.Sets.{elem, insert_asc}
use Rattle.store.specs.Stores.{macro_at, find}
use Rattle.pending.specs.Pending.{Pending, text_tokens, View, view, on_name}
use Rattle.arguments.specs.Arguments.{Args, bad, args, seek}
use Rattle.replace.specs.Tidying.{tidy_all}

-- a default's tokens carry "the usage's set and the macro"
abbrev pub fallback : List ℕ → Option (List ℕ) → List Pending
fallback set none = []
fallback set (some d) = text_tokens d set (tokens in_file d 0)

-- "An empty argument takes the default, else nothing"
abbrev pub or_else : List ℕ → Option (List ℕ) → List Pending → List Pending
or_else set d [] = fallback set d
or_else set d (p ∷ ps) = p ∷ ps

-- what takes the place of the name w, if it is a formal's
unfoldable pub value : List ℕ → List Parameter → List (List Pending) → List ℕ → Option (List Pending)
value set [] xs w = none
value set (parameter f d ∷ fs) [] w = let r = value set fs [] w in cond (same w f) (some (fallback set d)) r
value set (parameter f d ∷ fs) (a ∷ xs) w = let r = value set fs xs w in cond (same w f) (some (or_else set d a)) r

abbrev pub instead : Option (List Pending) → Pending → List Pending
instead none p = p ∷ []
instead (some a) p = a

-- "Plain and escaped names equal to a formal are replaced, none inside strings"
abbrev pub image_of : View → Pending → (List ℕ → Option (List Pending)) → List Pending
image_of v p f = on_name v (p ∷ []) (λ w. instead (f w) p)

-- of one token of the text, with these arguments
abbrev pub image_in : List ℕ → List Parameter → List (List Pending) → Pending → List Pending
image_in set fs xs p = image_of (view p) p (value set fs xs)

unfoldable pub in_place : (List ℕ → Option (List Pending)) → List Pending → List Pending
in_place f [] = []
in_place f (p ∷ ps) = image_of (view p) p f ++ in_place f ps

-- refused (with the place of 2 to 6), or what takes the place of the usage and its list, and what follows them
pub data Got : Type 0 where
  refused : ℕ → ℕ → Got
  got : List Pending → List Pending → Got

-- "The stored text, read afresh, gives its tokens", with arguments in place
abbrev pub text_with : List ℕ → List Parameter → List (List Pending) → List ℕ → List Pending
text_with set fs xs t = in_place (value set fs xs) (text_tokens t set (tokens in_text t 0))

abbrev pub has_default : Parameter → Bool
has_default (parameter f none) = false
has_default (parameter f (some d)) = true

-- 15: so many arguments are accepted; "missing last ones need defaults"
unfoldable pub enough : List Parameter → ℕ → Bool
enough [] zero = true
enough [] (suc n) = false
enough (f ∷ fs) zero = has_default f && enough fs zero
enough (f ∷ fs) (suc n) = enough fs n

-- the arguments of a usage and what follows its list, or refused
pub data Listed : Type 0 where
  barred : ℕ → ℕ → Listed
  listed : List (List Pending) → List Pending → Listed

-- "A list is accepted if none of 2 to 6, 14 and 15 bars it"
abbrev pub accepted : List Parameter → Args → Listed
accepted fs (bad n i) = barred n i
accepted fs (args a xs r) = cond (enough fs (length (a ∷ xs))) (listed (a ∷ xs) r) (barred 15 0)

-- the list of a usage of a macro with these formals, followed by ps; "a macro without formals seeks none"
abbrev pub list_for : List Parameter → List Pending → Listed
list_for [] ps = listed [] ps
list_for (f ∷ fs) ps = accepted (f ∷ fs) (seek ps)

abbrev pub with_list : List ℕ → List Parameter → List ℕ → Listed → Got
with_list set fs t (barred n i) = refused n i
with_list set fs t (listed xs r) = got (text_with set fs (tidy_all xs) t) r

abbrev pub replace_by : Macro → List ℕ → List Pending → Got
replace_by (macro n fs t) set ps = with_list set fs t (list_for fs ps)

-- 13, then 16: "A usage whose macro is in its set is recursive"
abbrev pub replace_at : Result ℕ ℕ → List Macro → List ℕ → List Pending → Got
replace_at (Err i) ms set ps = refused 13 0
replace_at (Ok i) ms set ps = cond (elem i set) (refused 16 0) (replace_by (macro_at ms i) (insert_asc i set) ps)

-- a usage of w with a set, followed by ps: 13, 16, 14 (or 2 to 6 in a file), 15
unfoldable pub replace : List Macro → List ℕ → List ℕ → List Pending → Got
replace ms w set ps = replace_at (find w ms) ms set ps

-- "the largest number of members that any token's set had"
unfoldable pub deepest : List Pending → ℕ
deepest [] = 0
deepest (p ∷ ps) = max (length p.own) (deepest ps)
