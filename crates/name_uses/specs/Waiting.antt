-- What a conditional word waits for.
-- Assumes nothing.
use Rattle.std.specs.Prelude.{ℕ, ◌+◌, ◌-◌, ◌==◌, ◌||◌, Bool, true, false, cond, min, nat_lt, List}
use Rattle.lex.specs.declared.Token.{Token}
use Rattle.lex.specs.declared.TheConstants.{NEWLINE}
use Rattle.lex.specs.Tokens.{is_gap, is_byte}
use Rattle.names.specs.declared.TheConstants.{IFDEF, IFNDEF, ELSIF}
use Rattle.name_uses.specs.declared.Due.{Due}
use Rattle.name_uses.specs.declared.Due.TheVariants.{Nothing, Condition, Closings}

-- whether a directive tests a condition
abbrev pub tests : ℕ → Bool
tests d = d == IFDEF || (d == IFNDEF || d == ELSIF)

-- one `(` more
abbrev pub opened : Due → Due
opened Nothing = Closings 1
opened Condition = Closings 1
opened (Closings n) = Closings (min (n + 1) 18446744073709551615)

-- one `)` less
abbrev pub closed : Due → Due
closed Nothing = Nothing
closed Condition = Nothing
closed (Closings n) = cond (nat_lt 1 n) (Closings (n - 1)) Nothing

-- past a token that is neither blank nor a bracket, which is the name where one was due
abbrev pub inside : Due → Due
inside Nothing = Nothing
inside Condition = Nothing
inside (Closings n) = Closings n

abbrev pub is_nothing : Due → Bool
is_nothing Nothing = true
is_nothing Condition = false
is_nothing (Closings n) = false

-- past the token t of the file s, which is the directive d
abbrev pub after_token : Due → List ℕ → Token → ℕ → Due
after_token due s t d =
    cond (tests d) Condition (cond (t.kind == NEWLINE) Nothing (cond (is_gap t || is_nothing due) due (cond (is_byte s 40 t) (opened due) (cond (is_byte s 41 t) (closed due) (inside due)))))
