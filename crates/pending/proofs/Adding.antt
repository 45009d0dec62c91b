-- References added behind the first of a lent list.
-- Assumes nothing.
use Prim.Native.Nat.{ℕ, suc, ◌+◌, ◌<◌, ◌≤◌}
use mathlib.Core.List.{List, [], ◌∷◌, ◌++◌, append_assoc, append-nil}
use mathlib.Core.Path.{◌≡◌, refl, sym, ap, ◌∙◌}
use native.Mathlib.Numerals.{add-one}
use native.Mathlib.Omega.{arith}
use lib.ListN.{length, take, set, length-append, length-set}
use lib.Seq.{take-suc-set}
use Rattle.pending.specs.declared.Pend.{Pend}
use Rattle.std.proofs.Common.{Option, Some, None}
use Rattle.pending.specs.Pending.{Pending}
use Rattle.pending.specs.References.{pendings, pending_by, pend_of, numbers_of}
use Rattle.pending.specs.Adding.{Takes, Adds, AddsBy}

module _ (s b : List ℕ) where
  pub pendings_append : (us vs : List (List ℕ)) → pendings s b (us ++ vs) ≡ pendings s b us ++ pendings s b vs
  unfolding pendings
  pendings_append [] vs = refl
  pendings_append (u ∷ us) vs = ap (λ (q : List Pending). pending_by s b (pend_of u) ∷ q) (pendings_append us vs)

  pub pendings_take_length : (vs : List (List ℕ)) → length (pendings s b vs) ≡ length vs
  unfolding pendings
  pendings_take_length [] = refl
  pendings_take_length (v ∷ vs) = ap suc (pendings_take_length vs)

  -- one reference more
  pub add_one_more : (o : List (List ℕ)) (most n : ℕ) (p : Pend) (v : List ℕ) → Takes o most n → n < most → v ≡ numbers_of p
      → Adds s b o (set o n v) most n (n + 1) (pending_by s b p ∷ [])
  unfolding pendings
  add_one_more o most n p v t h e =
      let l : n < length o = omega arith in
      record {
        same_length = length-set o n v;
        count = refl;
        fits = omega arith;
        tokens = rw (add-one, take-suc-set o n v l, pendings_append, e);
      }

  -- nothing more
  pub adds_none : (o : List (List ℕ)) (most n : ℕ) → n ≤ most → Adds s b o o most n n []
  adds_none o most n h = record { same_length = refl; count = omega arith; fits = h; tokens = sym (append-nil (pendings s b (take n o))) }

-- too many, and any tokens behind
pub adds_full_front : {most : ℕ} (n : ℕ) (q r : List Pending) → most < n + length q → most < n + length (q ++ r)
adds_full_front n q r h = rw length-append (omega arith)

-- some are added, then others
module _ {s b : List ℕ} {o o1 : List (List ℕ)} {most n k : ℕ} {q1 : List Pending} (a : Adds s b o o1 most n k q1) where
  -- there is room for others
  pub adds_takes : Takes o most n → Takes o1 most k
  adds_takes t = record { filled = a.fits; lent = rw a.same_length t.lent }

  pub adds_then : {o2 : List (List ℕ)} {m : ℕ} {q2 : List Pending} → Adds s b o1 o2 most k m q2 → Adds s b o o2 most n m (q1 ++ q2)
  adds_then {q2 = q2} c = record {
    same_length = c.same_length ∙ a.same_length;
    count = rw length-append (omega arith);
    fits = c.fits;
    tokens = c.tokens ∙ ap (λ (r : List Pending). r ++ q2) a.tokens ∙ append_assoc (pendings s b (take n o)) q1 q2;
  }

  -- these are too many
  pub adds_full_then : (q2 : List Pending) → most < k + length q2 → most < n + length (q1 ++ q2)
  adds_full_then q2 h = rw length-append (omega arith)

  pub adds_full_behind : (q2 r : List Pending) → most < k + length q2 → most < n + length (q1 ++ (q2 ++ r))
  adds_full_behind q2 r h = adds_full_then (q2 ++ r) (adds_full_front k q2 r h)

  -- either
  pub adds_by_then : (w : Option ℕ) (o2 : List (List ℕ)) (q2 : List Pending) → AddsBy w s b o1 o2 most k q2 → AddsBy w s b o o2 most n (q1 ++ q2)
  adds_by_then (Some m) o2 q2 c = adds_then c
  adds_by_then None o2 q2 c = (adds_full_then q2 c.0, c.1 ∙ a.same_length)
