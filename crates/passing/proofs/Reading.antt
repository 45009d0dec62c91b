-- What seeking a list computes is what the relations say.
-- Assumes nothing.
use mathlib.Core.Path.{◌≡◌, refl, sym, ap, ◌∙◌, subst}
use mathlib.Core.Bool.{Bool, true, false, cond}
use mathlib.Core.List.{List, [], ◌∷◌}
use Prim.Native.Nat.{ℕ, suc}
use lib.Dec.{eqb}
use lib.ListN.{length}
use borrow.Author.Tests.{eqb-true}
use Rattle.pending.specs.Pending.{Pending, View, blanks, calls, names, opens, closes, commas, bars, plain, view}
use Rattle.arguments.specs.Arguments.{Move, keep, part, close, fail, move_of, Args, bad, args, push, split, after, collect, seek_by, seek}
use Rattle.passing.proofs.Lists.{views, Counted, last, kept, parted, Listed, skip, opened, Collected, ended, pushed, cut}

-- collect reads what Collected says
pub data Read : List Pending → List ℕ → Args → Type 0 where
  unread : {ps : List Pending} {due : List ℕ} {n i : ℕ} → Read ps due (bad n i)
  read : {ps : List Pending} {due : List ℕ} {a : List Pending} {xs : List (List Pending)} {r : List Pending} → Collected ps due a xs r → Read ps due (args a xs r)

read_push : {p : Pending} {ps : List Pending} {due d : List ℕ} {g : Args} → move_of (view p) due ≡ keep d → Read ps d g → Read (p ∷ ps) due (push p g)
read_push h unread = unread
read_push {d = d} h (read c) = read (pushed d h c)

read_split : {p : Pending} {ps : List Pending} {due : List ℕ} {g : Args} → move_of (view p) due ≡ part → Read ps [] g → Read (p ∷ ps) due (split g)
read_split h unread = unread
read_split h (read c) = read (cut h c)

read_after : (p : Pending) (ps : List Pending) (due : List ℕ) (m : Move) → move_of (view p) due ≡ m → ((d : List ℕ) → Read ps d (collect ps d))
    → Read (p ∷ ps) due (after m p ps (λ d. collect ps d))
read_after p ps due (keep d) h ih = read_push h (ih d)
read_after p ps due part h ih = read_split h (ih [])
read_after p ps due close h ih = read (ended h)
read_after p ps due (fail n i) h ih = unread

pub read_of : (ps : List Pending) (due : List ℕ) → Read ps due (collect ps due)
unfolding collect
read_of [] due = unread
read_of (p ∷ ps) due = read_after p ps due (move_of (view p) due) refl (λ d. read_of ps d)

pub counted_of : {ps : List Pending} {due : List ℕ} {a : List Pending} {xs : List (List Pending)} {r : List Pending} → Collected ps due a xs r → Counted (views ps) due (length (a ∷ xs))
counted_of (ended h) = last h
counted_of (pushed d h c) = kept d h (counted_of c)
counted_of (cut h c) = parted h (counted_of c)

-- a list of so many arguments
pub data Sized : Args → ℕ → Type 0 where
  sized : {a : List Pending} {xs : List (List Pending)} {r : List Pending} {n : ℕ} → length (a ∷ xs) ≡ n → Sized (args a xs r) n

sized_push : (p : Pending) {g : Args} {n : ℕ} → Sized g n → Sized (push p g) n
sized_push p (sized e) = sized e

sized_split : {g : Args} {n : ℕ} → Sized g n → Sized (split g) (suc n)
sized_split (sized e) = sized (ap suc e)

pub collect_counted : (ps : List Pending) {due : List ℕ} {n : ℕ} → Counted (views ps) due n → Sized (collect ps due) n
unfolding collect
collect_counted [] h = elim h [ ]
collect_counted (p ∷ ps) (last h) = subst (λ m. Sized (after m p ps (λ d. collect ps d)) 1) (sym h) (sized refl)
collect_counted (p ∷ ps) {n = n} (kept d h c) = subst (λ m. Sized (after m p ps (λ d. collect ps d)) n) (sym h) (sized_push p (collect_counted ps c))
collect_counted (p ∷ ps) (parted {n = m} h c) = subst (λ z. Sized (after z p ps (λ d. collect ps d)) (suc m)) (sym h) (sized_split (collect_counted ps c))

-- seek likewise
pub data Sought : List Pending → Args → Type 0 where
  nowhere : {ps : List Pending} {n i : ℕ} → Sought ps (bad n i)
  there : {p : Pending} {ps : List Pending} {g : Args} → view p ≡ blanks → Sought ps g → Sought (p ∷ ps) g
  here : {p : Pending} {ps : List Pending} {g : Args} → view p ≡ opens 41 → Read ps [] g → Sought (p ∷ ps) g

sought_at : (p : Pending) (ps : List Pending) → Sought ps (seek ps) → (v : View) → view p ≡ v → Sought (p ∷ ps) (seek_by v (collect ps []) (seek ps))
sought_at p ps ih blanks e = there e ih
sought_at p ps ih (calls w) e = nowhere
sought_at p ps ih (names w) e = nowhere
sought_at p ps ih (opens c) e = go (eqb c 41) refl
  where
    go : (t : Bool) → eqb c 41 ≡ t → Sought (p ∷ ps) (cond t (collect ps []) (bad 14 0))
    go true h = here (e ∙ ap opens (eqb-true c 41 h)) (read_of ps [])
    go false h = nowhere
sought_at p ps ih (closes b) e = nowhere
sought_at p ps ih commas e = nowhere
sought_at p ps ih (bars n i) e = nowhere
sought_at p ps ih plain e = nowhere

pub sought_of : (ps : List Pending) → Sought ps (seek ps)
unfolding seek
sought_of [] = nowhere
sought_of (p ∷ ps) = sought_at p ps (sought_of ps) (view p) refl

pub sought_listed : {ps : List Pending} {a : List Pending} {xs : List (List Pending)} {r : List Pending} → Sought ps (args a xs r) → Listed (views ps) (length (a ∷ xs))
sought_listed (there e g) = skip e (sought_listed g)
sought_listed (here e (read c)) = opened e (counted_of c)

pub seek_listed : (ps : List Pending) {n : ℕ} → Listed (views ps) n → Sized (seek ps) n
unfolding seek
seek_listed [] h = elim h [ ]
seek_listed (p ∷ ps) {n} (skip e l) = subst (λ v. Sized (seek_by v (collect ps []) (seek ps)) n) (sym e) (seek_listed ps l)
seek_listed (p ∷ ps) {n} (opened e c) = subst (λ v. Sized (seek_by v (collect ps []) (seek ps)) n) (sym e) (collect_counted ps c)
