-- The formal list of a definition.
-- Assumes nothing.
use Rattle.std.specs.Prelude.{Result, Ok, Err, ℕ, zero, suc, ◌-◌, true, false, cond, ◌||◌, List, [], ◌∷◌, eqb, length, get_or}
use Rattle.lex.specs.Tokens.{in_definition, Name, Quote, Byte, is, is_byte, tokens}
use Rattle.lex.specs.declared.Token.{Token}
use Rattle.brackets.specs.Steps.{Step, on, done, torn, step_of}
use Rattle.definition.specs.Heads.{next_at}
use Rattle.definition.specs.declared.Formal.{Formal}
use Rattle.definition.specs.declared.ReadError.{ReadError}
use Rattle.definition.specs.declared.ReadError.TheVariants.{IllFormed}

-- what a token does in a default; a quote mark bars the definition (4) wherever its list ends, so reading stops there
unfoldable pub step_at : List ℕ → Token → List ℕ → Step
step_at s t ks = cond (is Quote t) torn (cond (is Byte t) (step_of (get_or s t.at 0) ks) (on ks))

-- where a default ends, and past what ends it; or it is ill-formed
abbrev pub Ending : Type 0
Ending = Result (ℕ × ℕ) ReadError

abbrev pub by_step : Step → Token → (List ℕ → Ending) → Ending
by_step (on ks) t go = go ks
by_step done t go = Ok (t.at, t.end)
by_step torn t go = Err IllFormed

-- where a default ends, with closing brackets due
unfoldable pub default_in : List ℕ → List ℕ → List Token → Ending
default_in s ks [] = Err IllFormed
default_in s ks (t ∷ ts) = by_step (step_at s t ks) t (λ ks'. default_in s ks' ts)

unfoldable pub default_end : List ℕ → ℕ → Ending
default_end s i = default_in s [] (tokens in_definition s i)

-- a formal without a default, ended by the `,` or `)` u
abbrev pub plain_formal : List ℕ → Token → Token → Formal
plain_formal s t u =
    record { from = t.from; end = t.end; given = false; first = 0; stop = 0; next = u.end; last = is_byte s 41 u }

-- a formal with a default that starts at a
abbrev pub given_formal : List ℕ → Token → ℕ → Ending → Result Formal ReadError
given_formal s t a (Ok (e, x)) =
    Ok
    (record { from = t.from; end = t.end; given = true; first = a; stop = e; next = x; last = eqb (get_or s e 0) 41 })
given_formal s t a (Err e) = Err e

-- the formal whose name is t, by the token u behind it
abbrev pub formal_by : List ℕ → Token → Token → Result Formal ReadError
formal_by s t u =
    cond (is_byte s 61 u) (given_formal s t u.end (default_end s u.end))
    (cond (is_byte s 44 u || is_byte s 41 u) (Ok (plain_formal s t u))
    (Err IllFormed))

-- the formal at i: a plain name, and a default if there is one
unfoldable pub formal_at : List ℕ → ℕ → Result Formal ReadError
formal_at s i = cond (is Name (next_at s i)) (formal_by s (next_at s i) (next_at s (next_at s i).end)) (Err IllFormed)

-- a formal list: ill_formed, or its formals and its end
pub data Formals : Type 0 where
  ill : Formals
  whole : List Formal → ℕ → Formals

abbrev pub also : Formal → Formals → Formals
also f ill = ill
also f (whole fs e) = whole (f ∷ fs) e

abbrev pub by_formal : Result Formal ReadError → (ℕ → Formals) → Formals
by_formal (Ok f) go = also f (cond f.last (whole [] f.next) (go f.next))
by_formal (Err e) go = ill

-- the formals from i on; n: fuel
unfoldable pub formals_from : ℕ → List ℕ → ℕ → Formals
formals_from zero s i = ill
formals_from (suc n) s i = by_formal (formal_at s i) (formals_from n s)

unfoldable pub formals_at : List ℕ → ℕ → Formals
formals_at s i = formals_from (suc (length s - i)) s i

-- the formals behind f
unfoldable pub behind : List ℕ → Formal → Formals
behind s f = cond f.last (whole [] f.next) (formals_at s f.next)
