-- What follows of two tests.
-- Assumes nothing.
use mathlib.Core.Bool.{Bool, true, false, cond, ◌&&◌, ◌||◌}
use mathlib.Core.Path.{◌≡◌, refl}

pub or_left : (a b : Bool) → (a || b) ≡ false → a ≡ false
or_left true b e = e
or_left false b e = refl

pub or_right : (a b : Bool) → (a || b) ≡ false → b ≡ false
or_right true b e = cc
or_right false b e = e

pub and_false : (a b : Bool) → b ≡ false → (a && b) ≡ false
and_false true b e = e
and_false false b e = refl

pub and_first : (a b : Bool) → b ≡ true → (a && b) ≡ false → a ≡ false
and_first true b h e = cc
and_first false b h e = refl

pub and_second : (a b : Bool) → a ≡ true → (a && b) ≡ false → b ≡ false
and_second true b h e = e
and_second false b h e = cc

pub and_alike : (a b c d : Bool) → a ≡ c → (c ≡ true → b ≡ d) → (a && b) ≡ (c && d)
and_alike a b true d p q = rw (p, q refl)
and_alike a b false d p q = rw p

pub passed : (c r : Bool) → cond c true r ≡ false → (c ≡ false) × (r ≡ false)
passed true r e = (e, cc)
passed false r e = (refl, e)
