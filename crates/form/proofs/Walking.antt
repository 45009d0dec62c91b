-- A walk along a formal list that puts the form of each formal.
-- Assumes nothing.
use Prim.Native.Nat.{ℕ, ◌+◌, ◌<◌, ◌≤◌}
use mathlib.Core.Bool.{Bool, true, false}
use mathlib.Core.List.{List, ◌++◌}
use mathlib.Core.Logic.{◌⊎◌, inl, inr}
use mathlib.Core.Path.{◌≡◌, refl, ap, ◌∙◌}
use native.Mathlib.Omega.{arith}
use lib.ListN.{length}
use Rattle.std.specs.Prelude.{Some, Result, Err}
use Rattle.std.specs.Result.{result_ok}
use Rattle.brackets.specs.Stacks.{Settled}
use Rattle.definition.specs.Lists.{formal_at, whole, formals_at}
use Rattle.definition.specs.Definitions.{parameter_of}
use Rattle.definition.specs.declared.Formal.{Formal}
use Rattle.definition.specs.declared.ReadError.{ReadError}
use Rattle.definition.specs.declared.ReadError.TheVariants.{NoRoom}
use Rattle.definition.proofs.Formals.{Rest, formals_rest}
use Rattle.definition.proofs.Scanning.{Scanning, scan_first, scan_next, formal_read, none_behind, some_behind}
use Rattle.form.specs.Forms.{parameter_form}
use Rattle.form.specs.Putting.{Put}
use Rattle.form.proofs.Pushing.{Pushing, pushing_first, pushing_end, pushing_next, pushing_short}
use Rattle.form.proofs.Formed.{forms_of, forms_none, forms_next}

-- of the whole list fs: the formals from i on, whose forms are still to be put
pub record Left (s o o' : List ℕ) (i n k : ℕ) (fs : List Formal) (e : ℕ) : Type 0 where
  pub rest : List Formal
  pub here : formals_at s i ≡ whole rest e
  pub pushing : Pushing o o' n k (forms_of s rest) (forms_of s fs)

-- the walk asks nothing of the formals
abbrev pub unasked : List Formal → Bool
unasked fs = true

-- a walk from `at` on is at i, and k bytes of the buffer are filled
pub record Walking (s work work' o o' : List ℕ) (at i n k : ℕ) : Type 0 where
  pub scan : Scanning (λ (j : ℕ). Unit {0}) s work work' unasked at i
  pub same_length : length o' ≡ length o
  pub fits : k ≤ length o
  pub left : (fs : List Formal) (e : ℕ) → formals_at s at ≡ whole fs e → Left s o o' i n k fs e

pub walk_first : {s work o : List ℕ} {at n : ℕ} → n ≤ length o → Walking s work work o o at at n n
walk_first l =
    record {
      scan = scan_first;
      same_length = refl;
      fits = l;
      left = λ fs e p. record { rest = fs; here = p; pushing = pushing_first l };
    }

module _ {s work work' o o' : List ℕ} {at i n k : ℕ} (a : Walking s work work' o o' at i n k) where
  pub walk_fits : k ≤ length o'
  walk_fits = omega (arith, a.fits, a.same_length)

  -- the formal f was read at i, its form is put with w work bytes
  module _ {r : Result Formal ReadError} (h : Settled work' (length s) (Err NoRoom) (formal_at s i) r) {f : Formal} (q : Some f ≡ result_ok r) (o'' : List ℕ) (y : length o'' ≡ length o') where
    module _ {fs : List Formal} {e : ℕ} (p : formals_at s at ≡ whole fs e) where
      walk_rest : Rest s f (a.left fs e p).rest e
      walk_rest = formals_rest s i f (a.left fs e p).rest e (formal_read a.scan h q) (a.left fs e p).here

      walk_forms : forms_of s (a.left fs e p).rest ≡ parameter_form (parameter_of s f) ++ forms_of s walk_rest.rest
      walk_forms = ap (forms_of s) walk_rest.first ∙ forms_next s f walk_rest.rest

      pub walk_full : {w : ℕ} → w ≡ length work' → (w < length s) ⊎ (length o' < k + length (parameter_form (parameter_of s f)))
          → (length work < length s) ⊎ (length o < n + length (forms_of s fs))
      walk_full z (inl l) = inl (omega (arith, a.scan.same_length))
      walk_full z (inr l) = inr (pushing_short (a.left fs e p).pushing (parameter_form (parameter_of s f)) (forms_of s walk_rest.rest) walk_forms l)

      module _ {m : ℕ} (b : Put o' o'' k m (parameter_form (parameter_of s f))) where
        walk_on : Pushing o o'' n m (forms_of s walk_rest.rest) (forms_of s fs)
        walk_on = pushing_next (a.left fs e p).pushing (parameter_form (parameter_of s f)) (forms_of s walk_rest.rest) walk_forms y b

        pub walk_last : f.last ≡ true → Put o o'' n m (forms_of s fs)
        walk_last l = pushing_end walk_on (forms_none s (none_behind s f walk_rest.others l))

    pub walk_next : {v : List ℕ} {m : ℕ} → length v ≡ length work' → Put o' o'' k m (parameter_form (parameter_of s f)) → f.last ≡ false
        → Walking s work v o o'' at f.next n m
    walk_next u b l =
        record {
          scan = scan_next a.scan h q (λ w c gs e p. refl) (λ w c. tt) l u;
          same_length = y ∙ a.same_length;
          fits = omega (arith, a.same_length, b.fits);
          left = λ fs e p. record { rest = (walk_rest p).rest; here = some_behind s f (walk_rest p).others l; pushing = walk_on p b };
        }
