-- A formal list, as its formals are counted one at a time.
-- Assumes nothing.
use Prim.Native.Nat.{ℕ, suc, ◌+◌, ◌<◌, ◌≤◌}
use mathlib.Core.Bool.{true, false, not}
use mathlib.Core.List.{List, []}
use mathlib.Core.Path.{◌≡◌, refl, sym, ap, ◌∙◌}
use native.Mathlib.Omega.{arith}
use lib.ListN.{length}
use borrow.Author.Tests.{not-true, not-false}
use Rattle.std.specs.Prelude.{Result, Ok, Err}
use Rattle.brackets.specs.Stacks.{Settled, full, over}
use Rattle.brackets.proofs.Settling.{full_lent, settled_full, settled_over}
use Rattle.definition.specs.declared.Formal.{Formal}
use Rattle.definition.specs.declared.Head.{Head}
use Rattle.definition.specs.declared.ReadError.{ReadError}
use Rattle.definition.specs.declared.ReadError.TheVariants.{IllFormed, NoRoom}
use Rattle.definition.specs.Lists.{formal_at, Formals, ill, whole, also, formals_at, behind}
use Rattle.definition.specs.Definitions.{shape_by}
use Rattle.definition.specs.Answers.{list_of}
use Rattle.definition.proofs.Formals.{formal_full, formal_inside, formals_ill, formals_out, formals_next, behind_last, behind_more}

-- a number of formals and a list's end
abbrev pub Counts : Type 0
Counts = Result (ℕ × ℕ) ReadError

abbrev counts : ℕ → ℕ → Counts
counts n e = Ok (n, e)

-- a list with n formals before it
unfoldable pub atop : ℕ → Formals → Counts
atop n ill = Err IllFormed
atop n (whole fs e) = Ok (n + length fs, e)

atop_none : (r : Formals) → atop 0 r ≡ list_of r
unfolding atop
atop_none ill = refl
atop_none (whole fs e) = let q : 0 + length fs ≡ length fs = omega arith in ap (λ (n : ℕ). counts n e) q

atop_also : (n : ℕ) (f : Formal) (r : Formals) → atop n (also f r) ≡ atop (n + 1) r
unfolding atop
atop_also n f ill = refl
atop_also n f (whole fs e) =
    let q : n + suc (length fs) ≡ n + 1 + length fs = omega arith in ap (λ (n : ℕ). counts n e) q

-- the list that starts at `from` is read up to i, with n formals
pub record Counted (s : List ℕ) (from : ℕ) (lent work : List ℕ) (i n : ℕ) : Type 0 where
  pub same : length work ≡ length lent
  pub few : n ≤ i
  pub rest : atop n (formals_at s i) ≡ list_of (formals_at s from)

pub counted_first : (s : List ℕ) (from : ℕ) (work : List ℕ) → Counted s from work work from 0
counted_first s from work = record { same = refl; few = omega arith; rest = atop_none (formals_at s from) }

module _ {s lent work : List ℕ} {from i n : ℕ} (d : Counted s from lent work i n) where
  abbrev Listed : Counts → Type 0
  Listed r = Settled lent (length s) (Err NoRoom) (list_of (formals_at s from)) r

  pub counted_out : length s ≤ i → Listed (Err IllFormed)
  unfolding atop
  counted_out h = full (sym (ap (atop n) (formals_out s i h)) ∙ d.rest)

  -- none at i, as the code reads it
  pub counted_err : {e : ReadError} → Settled work (length s) (Err NoRoom) (formal_at s i) (Err e) → Listed (Err e)
  unfolding atop
  counted_err {e = IllFormed} v =
      let z : formal_at s i ≡ Err IllFormed = sym (settled_full v (λ z. cc)) in
      full (sym (ap (atop n) (formals_ill s i z)) ∙ d.rest)
  counted_err {e = NoRoom} v = over refl (full_lent work lent (length s) d.same (settled_over v refl (formal_full s i)))

  -- f: the formal at i, as the code reads it
  module _ {f : Formal} (v : Settled work (length s) (Err NoRoom) (formal_at s i) (Ok f)) where
    read : formal_at s i ≡ Ok f
    read = sym (settled_full v (λ z. cc))

    pub counted_goes : (i < f.next) × (f.next ≤ length s)
    counted_goes = formal_inside s i f read

    more : atop (n + 1) (behind s f) ≡ list_of (formals_at s from)
    more = sym (ap (atop n) (formals_next s i f read) ∙ atop_also n f (behind s f)) ∙ d.rest

    pub counted_last : f.last ≡ true → Listed (Ok (n + 1, f.next))
    unfolding atop
    counted_last l =
        let z : n + 1 + 0 ≡ n + 1 = omega arith in
        full (ap (λ (k : ℕ). counts k f.next) (sym z) ∙ sym (ap (atop (n + 1)) (behind_last s f l)) ∙ more)

    pub counted_next : f.last ≡ false → {work' : List ℕ} → length work' ≡ length work → Counted s from lent work' f.next (n + 1)
    counted_next l h =
        let g = counted_goes in
        let e = d.same in
        let k = d.few in
        record { same = omega arith; few = omega arith; rest = sym (ap (atop (n + 1)) (behind_more s f l)) ∙ more }

-- the shape of a head
module _ (s : List ℕ) (h : Head) where
  pub shape_none : not h.whole ≡ true → shape_by s h ≡ ill
  shape_none e = rw (not-true h.whole e)

  module _ (e : not h.whole ≡ false) where
    pub shape_bare : not h.listed ≡ true → shape_by s h ≡ whole [] h.next
    shape_bare b = rw (not-false h.whole e, not-true h.listed b)

    pub shape_listed : not h.listed ≡ false → shape_by s h ≡ formals_at s h.next
    shape_listed b = rw (not-false h.whole e, not-false h.listed b)
