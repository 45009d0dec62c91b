-- Worked examples of conditions, over the names A and B, which are defined, and any others, which are not. The word `ifdef`
-- stands at 0 and ends at 6.
-- Assumes nothing.
use Prim.Native.Nat.{ℕ}
use mathlib.Core.Bool.{Bool, true, false, ◌||◌}
use mathlib.Core.List.{List}
use mathlib.Core.Path.{◌≡◌, refl}
use Rattle.std.specs.Prelude.{Ok, Err}
use Rattle.text.specs.Bytes.{bytes, same}
use Rattle.lex.specs.Faults.{fault}
use Rattle.lex.specs.Tokens.{in_file, token_at}
use Rattle.conditions.specs.Grammar.{Condition, condition_at}
use Rattle.conditions.proofs.Computing.{conditioning}

abbrev defined : List ℕ → Bool
defined w = same w (bytes "A") || same w (bytes "B")

abbrev of : List ℕ → Condition
of s = condition_at s defined (token_at in_file s 0)

-- a name alone ends at its end
pub name_alone : of (bytes "`ifdef A x") ≡ Ok (true, 8)
unfolding conditioning same
name_alone = refl

-- `&&` binds before `||`
pub and_or : of (bytes "`ifdef (A || B && C)") ≡ Ok (true, 20)
unfolding conditioning same
and_or = refl

pub or_grouped : of (bytes "`ifdef ((A || B) && C)") ≡ Ok (false, 22)
unfolding conditioning same
or_grouped = refl

-- `!` binds before `&&`
pub not_and : of (bytes "`ifdef (!A && C)") ≡ Ok (false, 16)
unfolding conditioning same
not_and = refl

pub not_grouped : of (bytes "`ifdef (!(A && C))") ≡ Ok (true, 18)
unfolding conditioning same
not_grouped = refl

pub not_not : of (bytes "`ifdef (!! C)") ≡ Ok (false, 13)
unfolding conditioning same
not_not = refl

-- `||` binds before the arrows
pub or_arrow : of (bytes "`ifdef (A||C->C)") ≡ Ok (false, 16)
unfolding conditioning same
or_arrow = refl

pub arrow_grouped : of (bytes "`ifdef (A||(C->C))") ≡ Ok (true, 18)
unfolding conditioning same
arrow_grouped = refl

-- arrows group from the right: C -> (A -> C) holds, (C -> A) -> C does not
pub arrows_right : of (bytes "`ifdef (C->A->C)") ≡ Ok (true, 16)
unfolding conditioning same
arrows_right = refl

pub arrows_left : of (bytes "`ifdef ((C->A)->C)") ≡ Ok (false, 18)
unfolding conditioning same
arrows_left = refl

-- both arrows are of one rank: C <-> (C -> A) does not hold, (C <-> C) -> A does; C -> (C <-> C) holds, (C -> C) <-> C does not
pub equal_first : of (bytes "`ifdef (C<->C->A)") ≡ Ok (false, 17)
unfolding conditioning same
equal_first = refl

pub equal_grouped : of (bytes "`ifdef ((C<->C)->A)") ≡ Ok (true, 19)
unfolding conditioning same
equal_grouped = refl

pub implies_first : of (bytes "`ifdef (C->C<->C)") ≡ Ok (true, 17)
unfolding conditioning same
implies_first = refl

pub implies_grouped : of (bytes "`ifdef ((C->C)<->C)") ≡ Ok (false, 19)
unfolding conditioning same
implies_grouped = refl

-- white bytes and comments on one line between tokens; a newline is refused at itself
pub comments : of (bytes "`ifdef/**/( A /* x */\t)//") ≡ Ok (true, 23)
unfolding conditioning same
comments = refl

pub newline : of (bytes "`ifdef (A\n)") ≡ Err (fault 7 9)
unfolding conditioning same
newline = refl

-- an escaped name reaches to white space
pub escaped : of (bytes "`ifdef (\\A )") ≡ Ok (true, 12)
unfolding conditioning same
escaped = refl

-- a token that does not fit; the end of the file; before the first `(`, 7 at the directive
pub third_and : of (bytes "`ifdef (A &&& B)") ≡ Err (fault 7 12)
unfolding conditioning same
third_and = refl

pub file_end : of (bytes "`ifdef (A") ≡ Err (fault 7 9)
unfolding conditioning same
file_end = refl

pub no_name : of (bytes "`ifdef 1") ≡ Err (fault 7 0)
unfolding conditioning same
no_name = refl

-- 2 to 6 at their token
pub barred : of (bytes "`ifdef (A && \"x)") ≡ Err (fault 3 13)
unfolding conditioning same
barred = refl

-- 32 parentheses may be open, a 33rd not
pub thirty_two : of (bytes "`ifdef ((((((((((((((((((((((((((((((((A))))))))))))))))))))))))))))))))") ≡ Ok (true, 72)
unfolding conditioning same
thirty_two = refl

pub thirty_third : of (bytes "`ifdef (((((((((((((((((((((((((((((((((A)))))))))))))))))))))))))))))))))") ≡ Err (fault 7 39)
unfolding conditioning same
thirty_third = refl
