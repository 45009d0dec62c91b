-- The names in the formal list of a definition that nothing bars are fit.
-- Assumes nothing.
use Prim.Native.Nat.{ℕ, zero, suc, ◌-◌, ◌<◌}
use mathlib.Core.Bool.{true, cond, ◌||◌}
use mathlib.Core.List.{List, [], ◌∷◌}
use mathlib.Core.Path.{◌≡◌, refl}
use lib.ListN.{length}
use Rattle.std.specs.Prelude.{Result, Ok, Err}
use Rattle.lex.specs.Tokens.{in_definition, Name, is, is_byte, name_of}
use Rattle.lex.specs.declared.Token.{Token}
use Rattle.lex.proofs.Tests.{by_test}
use Rattle.definition.specs.Extents.{Free}
use Rattle.definition.specs.Heads.{gap_end, next_at}
use Rattle.definition.specs.Lists.{Ending, default_end, given_formal, formal_by, formal_at, Formals, ill, whole, also, by_formal, formals_from, formals_at}
use Rattle.definition.specs.Definitions.{formal_name}
use Rattle.definition.specs.declared.Formal.{Formal}
use Rattle.definition.specs.declared.ReadError.{ReadError}
use Rattle.definition.proofs.Formals.{kind_inside}
use Rattle.definition.proofs.Seeing.{token_seen}
use Rattle.definition.proofs.Onward.{kind_past, gap_past, read_free}
use Rattle.genuine.specs.Fitness.{fit_formal}
use Rattle.genuine.proofs.Naming.{word_fit}

module _ (s : List ℕ) where
  -- a formal's name is fit
  FormalFit : Result Formal ReadError → Type 0
  FormalFit (Ok f) = fit_formal (formal_name s f) ≡ true
  FormalFit (Err e) = Unit {0}

  given_fit : (t : Token) (a : ℕ) → fit_formal (name_of s t) ≡ true → (r : Ending) → FormalFit (given_formal s t a r)
  unfolding FormalFit
  given_fit t a e (Ok (x, y)) = e
  given_fit t a e (Err v) = tt

  formal-by : (t u : Token) → fit_formal (name_of s t) ≡ true → FormalFit (formal_by s t u)
  unfolding FormalFit
  formal-by t u e =
      by_test FormalFit (is_byte s 61 u) (λ d. given_fit t u.end e (default_end s u.end))
      (λ d. by_test FormalFit (is_byte s 44 u || is_byte s 41 u) (λ d. e) (λ d. tt))

  formal_fit : (i : ℕ) → Free s i → FormalFit (formal_at s i)
  unfolding FormalFit formal_at
  formal_fit i u =
      let t = next_at s i in
      let a = gap_end s i in
      by_test FormalFit (is Name t)
      (λ e. let l : a < length s = kind_inside in_definition s a Name refl e in
      formal-by t (next_at s t.end) (word_fit l (token_seen s a in_definition l) e (kind_past s a Name refl refl refl e (gap_past s i u)).0))
      (λ e. tt)

  -- the names of all formals are fit
  pub data AllFit : List Formal → Type 0 where
    empty : AllFit []
    more : (f : Formal) (fs : List Formal) → fit_formal (formal_name s f) ≡ true → AllFit fs → AllFit (f ∷ fs)

  unfoldable pub FormalsFit : Formals → Type 0
  FormalsFit ill = Unit {0}
  FormalsFit (whole fs e) = AllFit fs

  also_fit : (f : Formal) (r : Formals) → fit_formal (formal_name s f) ≡ true → FormalsFit r → FormalsFit (also f r)
  unfolding FormalsFit
  also_fit f ill e h = tt
  also_fit f (whole fs x) e h = more f fs e h

  formal_then : (r : Result Formal ReadError) (go : ℕ → Formals) → FormalFit r → ((f : Formal) → r ≡ Ok f → FormalsFit (go f.next)) → FormalsFit (by_formal r go)
  unfolding FormalFit FormalsFit
  formal_then (Ok f) go h g =
      also_fit f (cond f.last (whole [] f.next) (go f.next)) h (by_test FormalsFit f.last (λ e. empty) (λ e. g f refl))
  formal_then (Err e) go h g = tt

  formals_from_lem : (n i : ℕ) → Free s i → FormalsFit (formals_from n s i)
  unfolding FormalsFit formals_from
  formals_from_lem zero i u = tt
  formals_from_lem (suc n) i u =
      formal_then (formal_at s i) (formals_from n s) (formal_fit i u) (λ f e. formals_from_lem n f.next (read_free s i f e u).1)

  pub formals-fit : (i : ℕ) → Free s i → FormalsFit (formals_at s i)
  unfolding formals_at
  formals-fit i u = formals_from_lem (suc (length s - i)) i u
