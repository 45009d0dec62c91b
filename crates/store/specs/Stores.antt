-- The macro store (01, "Macros"): the live macros in byte order of their names.
-- Assumes nothing.
use Rattle.std.specs.Prelude.{ℕ, suc, Bool, ◌&&◌, ◌≡◌, List, [], ◌∷◌, ◌++◌, leb, length, take, drop, get_or, Result, Ok, Err}
use Rattle.text.specs.Order.{order_of}
use Rattle.std.specs.declared.cmp.Ordering.{Ordering}
use Rattle.std.specs.declared.cmp.Ordering.TheVariants.{Less, Equal, Greater}
use Rattle.definition.specs.Definitions.{Macro, macro}
use Rattle.form.specs.Forms.{form_of}

abbrev pub macro_name : Macro → List ℕ
macro_name (macro n ps t) = n

abbrev pub macro_text : Macro → List ℕ
macro_text (macro n ps t) = t

abbrev pub no_macro : Macro
no_macro = macro [] [] []

-- macro i, numbered from 0 in byte order of names
abbrev pub macro_at : List Macro → ℕ → Macro
macro_at ms i = get_or ms i no_macro

-- a name stands before the first of the macros, if there is one
abbrev pub Below : List ℕ → List Macro → Type 0
Below w [] = Unit {0}
Below w (m ∷ ms) = order_of w (macro_name m) ≡ Less

-- "in byte order of names"
abbrev pub Ascending : List Macro → Type 0
Ascending [] = Unit {0}
Ascending (m ∷ ms) = Below (macro_name m) ms × Ascending ms

-- where a name stands or belongs, by its order to the name at k and its place in the rest
abbrev pub place_by : Ordering → ℕ → Result ℕ ℕ → Result ℕ ℕ
place_by Less k f = Err k
place_by Equal k f = Ok k
place_by Greater k f = f

unfoldable pub find_from : ℕ → List ℕ → List Macro → Result ℕ ℕ
find_from k w [] = Err k
find_from k w (m ∷ ms) = place_by (order_of w (macro_name m)) k (find_from (suc k) w ms)

abbrev pub find : List ℕ → List Macro → Result ℕ ℕ
find w ms = find_from 0 w ms

abbrev pub insert_at : ℕ → Macro → List Macro → List Macro
insert_at i m ms = take i ms ++ (m ∷ drop i ms)

abbrev pub replace_at : ℕ → Macro → List Macro → List Macro
replace_at i m ms = take i ms ++ (m ∷ drop (suc i) ms)

abbrev pub remove_at : ℕ → List Macro → List Macro
remove_at i ms = take i ms ++ drop (suc i) ms

-- a definition takes the place of one of the same name
abbrev pub define_by : Result ℕ ℕ → Macro → List Macro → List Macro
define_by (Ok i) m ms = replace_at i m ms
define_by (Err i) m ms = insert_at i m ms

unfoldable pub define : Macro → List Macro → List Macro
define m ms = define_by (find (macro_name m) ms) m ms

-- "`undef` of an unknown name does nothing"
abbrev pub undefine_by : Result ℕ ℕ → List Macro → List Macro
undefine_by (Ok i) ms = remove_at i ms
undefine_by (Err i) ms = ms

unfoldable pub undefine : List ℕ → List Macro → List Macro
undefine w ms = undefine_by (find w ms) ms

-- "Definitions lie packed in byte order of names"
unfoldable pub encode : List Macro → List ℕ
encode [] = []
encode (m ∷ ms) = form_of m ++ encode ms

-- 12: "a 257th macro, or records or macro bytes too short"; "Room is enough exactly if the live forms fit"
unfoldable pub fits : ℕ → ℕ → List Macro → Bool
fits recordsLent bytesLent ms =
    leb (length ms) 256 && (leb (length ms) recordsLent && leb (length (encode ms)) bytesLent)
