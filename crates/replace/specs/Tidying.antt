-- An argument as it is put in place (01: "Text: each comment becomes one space, .. defaults and arguments likewise").
-- Assumes nothing.
use Rattle.std.specs.Prelude.{ℕ, ◌≤◌, Bool, false, cond, ◌&&◌, ◌≡◌, List, [], ◌∷◌, eqb, get_or}
use Rattle.lex.specs.Tokens.{White, Newline, String, Byte}
use Rattle.storing.specs.Stored.{joined_from}
use Rattle.pending.specs.Pending.{Pending, is_spacing, is_comment}
use Rattle.pending.specs.Sources.{Spans}

-- an argument's token: "each comment becomes one space, `\`newline .. (nothing inside a string ..)"; where it stood in a file is
-- no matter any more
abbrev pub cleaned : Pending → Pending
cleaned p =
    cond (is_comment p.kind) (record { kind = White; bytes = 32 ∷ []; name = []; own = p.own; at = 0; bar = 0 })
    (cond (eqb p.kind String)
    (record { kind = String; bytes = joined_from false p.bytes; name = p.name; own = p.own; at = 0; bar = 0 })
    (record { kind = p.kind; bytes = p.bytes; name = p.name; own = p.own; at = 0; bar = 0 }))

abbrev pub before_newline : List Pending → Bool
before_newline [] = false
before_newline (p ∷ ps) = eqb p.kind Newline

abbrev pub is_backslash : Pending → Bool
is_backslash p = eqb p.kind Byte && eqb (get_or p.bytes 0 0) 92

-- "`\`newline a newline"
unfoldable pub cleaned_all : List Pending → List Pending
cleaned_all [] = []
cleaned_all (p ∷ ps) =
    let r = cleaned_all ps in
    cond (is_backslash p && before_newline ps) r (cleaned p ∷ r)

-- "white space and newlines at both ends dropped"
unfoldable pub drop_left : List Pending → List Pending
drop_left [] = []
drop_left (p ∷ ps) = let r = drop_left ps in cond (is_spacing p.kind) r (p ∷ ps)

abbrev pub keep_last : Pending → List Pending → List Pending
keep_last p [] = cond (is_spacing p.kind) [] (p ∷ [])
keep_last p (q ∷ qs) = p ∷ q ∷ qs

unfoldable pub drop_right : List Pending → List Pending
drop_right [] = []
drop_right (p ∷ ps) = keep_last p (drop_right ps)

-- an argument as it is put in place
abbrev pub tidy : List Pending → List Pending
tidy ps = drop_right (drop_left (cleaned_all ps))

unfoldable pub tidy_all : List (List Pending) → List (List Pending)
tidy_all [] = []
tidy_all (a ∷ xs) = tidy a ∷ tidy_all xs

-- an argument ps from position i on, without the spacing at its end: up to r, and what is put in place of its tokens
pub record Trims (f : ℕ → List Pending) (i to r : ℕ) (ps : List Pending) : Type 0 where
  pub kept : List Pending
  pub spans : Spans f i r kept
  pub before : r ≤ to
  pub tidied : tidy ps ≡ drop_left (cleaned_all kept)
