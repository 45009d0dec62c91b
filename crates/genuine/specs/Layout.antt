-- Which records and bytes definitions leave: forms packed from the first byte on, in strict byte order of their names, each one
-- that some definition stores, and all zero past the last.
-- Assumes nothing.
use Rattle.std.specs.Prelude.{ℕ, zero, suc, ◌+◌, Bool, true, false, cond, not, ◌&&◌, List, [], ◌∷◌, eqb, leb, ltb, length, get_or, drop, Option, Some, None}
use Rattle.text.specs.Bytes.{same, part, two_at}
use Rattle.text.specs.Order.{order_of}
use Rattle.std.specs.declared.cmp.Ordering.{Ordering}
use Rattle.std.specs.declared.cmp.Ordering.TheVariants.{Less, Equal, Greater}
use Rattle.packed.specs.Records.{record_of}
use Rattle.packed.specs.declared.Record.{Record}
use Rattle.genuine.specs.Fitness.{fit_name, fit_formal, fit_stored}

-- "per formal two bytes of length (low first), name, mark .., two bytes of length, default": of the formal at i, where its name
-- ends, which is where its mark stands; its name; where its default starts and ends
abbrev pub mark_at : List ℕ → ℕ → ℕ
mark_at b i = i + 2 + two_at b i

abbrev pub formal_name : List ℕ → ℕ → List ℕ
formal_name b i = part b (i + 2) (mark_at b i)

abbrev pub formal_end : List ℕ → ℕ → ℕ
formal_end b i = mark_at b i + 3 + two_at b (mark_at b i + 1)

abbrev pub formal_default : List ℕ → ℕ → List ℕ
formal_default b i = part b (mark_at b i + 3) (formal_end b i)

-- "mark 0 or 1 for a default, two bytes of length, default"
unfoldable pub default_fits : List ℕ → ℕ → Bool
default_fits b i =
    cond (eqb (get_or b (mark_at b i) 0) 0) (eqb (two_at b (mark_at b i + 1)) 0)
    (eqb (get_or b (mark_at b i) 0) 1 && fit_stored false (formal_default b i))

-- whether one of the c formals from i on has the name w
unfoldable pub named_from : ℕ → List ℕ → ℕ → List ℕ → Bool
named_from zero b i w = false
named_from (suc c) b i w = let r = named_from c b (formal_end b i) w in cond (same w (formal_name b i)) true r

-- the formal at i, with c more behind it, ends at e or before
unfoldable pub formal_fits : ℕ → List ℕ → ℕ → ℕ → Bool
formal_fits c b i e =
    leb (formal_end b i) e &&
    (fit_formal (formal_name b i) && (default_fits b i && not (named_from c b (formal_end b i) (formal_name b i))))

-- c formals reach from i to e
unfoldable pub formals_fit : ℕ → List ℕ → ℕ → ℕ → Bool
formals_fit zero b i e = eqb i e
formals_fit (suc c) b i e = formal_fits c b i e && formals_fit c b (formal_end b i) e

abbrev pub is_less : Ordering → Bool
is_less Less = true
is_less Equal = false
is_less Greater = false

abbrev pub name_in : List ℕ → Record → List ℕ
name_in b r = part b r.start (r.start + r.name)

abbrev pub end_of : Record → ℕ
end_of r = r.text + r.size

-- where the count of formals stands
abbrev pub count_at : Record → ℕ
count_at r = r.start + r.name

-- "formal count, one byte; per formal ..; then text"
unfoldable pub body_fits : List ℕ → Record → Bool
body_fits b r =
    leb (get_or b (count_at r) 0) 16 &&
    (formals_fit (get_or b (count_at r) 0) b (count_at r + 1) r.text && fit_stored true (part b r.text (end_of r)))

-- the form of the record r starts at a, behind that of the name w
unfoldable pub entry_fits : List ℕ → ℕ → List ℕ → Record → Bool
entry_fits b a w r =
    eqb r.start a &&
    (leb (end_of r) (length b) &&
    (leb (count_at r + 1) r.text && (fit_name (name_in b r) && (is_less (order_of w (name_in b r)) && body_fits b r))))

unfoldable pub all_zero : List ℕ → Bool
all_zero [] = true
all_zero (x ∷ xs) = eqb x 0 && all_zero xs

abbrev pub is_blank : Record → Bool
is_blank r = eqb r.start 0 && (eqb r.name 0 && (eqb r.text 0 && eqb r.size 0))

-- a record is four numbers
abbrev pub is_four : List ℕ → Bool
is_four v = eqb (length v) 4

unfoldable pub all_blank : List (List ℕ) → Bool
all_blank [] = true
all_blank (v ∷ vs) = (is_four v && is_blank (record_of v)) && all_blank vs

-- n macros, if nothing stands behind the last, whose form ends at a
unfoldable pub ends_there : ℕ → List ℕ → ℕ → List (List ℕ) → Option ℕ
ends_there n b a vs = cond (all_blank vs && all_zero (drop a b)) (Some n) None

-- the number of macros, where n stand before and the form of the last of these, of the name w, ends at a
unfoldable pub left_from : ℕ → List ℕ → ℕ → List ℕ → List (List ℕ) → Option ℕ
left_from n b a w [] = ends_there n b a []
left_from n b a w (v ∷ vs) =
    let r = left_from (suc n) b (end_of (record_of v)) (name_in b (record_of v)) vs in
    cond (is_four v && is_blank (record_of v)) (ends_there n b a (v ∷ vs))
    (cond (ltb n 256 && (is_four v && entry_fits b a w (record_of v))) r None)

-- the number of macros in a store that definitions leave, or that it is none such
unfoldable pub left_in : List ℕ → List (List ℕ) → Option ℕ
left_in b rows = cond (leb (length b) 65536) (left_from 0 b 0 [] rows) None
