-- Look up's contract settles its answer on every store, and the part is empty exactly if the macro is not defined.
-- Assumes nothing.
use Prim.Native.Nat.{ℕ, ◌<◌}
use native.Mathlib.Omega.{arith}
use mathlib.Core.List.{List, [], ◌++◌}
use mathlib.Core.Path.{◌≡◌, refl, ap}
use lib.ListN.{length, get_or, length-append}
use Rattle.definition.specs.Definitions.{Macro, macro}
use Rattle.form.specs.Forms.{head_form, form_of, list_form}
use Rattle.store.specs.Stores.{macro_at, find}
use Rattle.std.proofs.Common.{Ok, Err, Option, Some, None}
use Rattle.genuine.specs.Layout.{left_in}
use Rattle.genuine.specs.Leaving.{LeftBy}
use Rattle.genuine.proofs.Accepting.{Accepted, left_sound}
use Rattle.macros.specs.Looking.{plainly, shown, Shows}

-- what is shown: nothing of a foreign store, else what its macros say
pub data LookedUp (b : List ℕ) (r : List (List ℕ)) (name part : List ℕ) : Type 0 where
  of_none : left_in b r ≡ None → part ≡ [] → LookedUp b r name part
  of_macros : (ms : List Macro) → LeftBy ms b r → part ≡ shown (plainly name) ms → LookedUp b r name part

pub look_up_told : (b : List ℕ) (r : List (List ℕ)) (name part : List ℕ) → ((i : ℕ) → get_or b i 0 < 256) → Shows b r name part → LookedUp b r name part
look_up_told b r name part bytes h = go (left_in b r) refl
  where
    go : (c : Option ℕ) → left_in b r ≡ c → LookedUp b r name part
    go (Some n) e = let a : Accepted b r n = left_sound b r n bytes e in of_macros a.macros a.left (h.left a.macros a.left)
    go None e = of_none e (h.foreign e)

-- a stored form has a name and a count of formals
pub form_some : (m : Macro) → form_of m ≡ [] → ⊥
unfolding form_of head_form
form_some (macro n ps t) e =
    omega (arith, ap length e, length-append (n ++ list_form ps) t, length-append n (list_form ps))

-- a macro that is defined is shown, one that is not is not
pub defined_shown : (w : List ℕ) (ms : List Macro) (i : ℕ) → find w ms ≡ Ok i → shown w ms ≡ [] → ⊥
unfolding shown
defined_shown w ms i e h = form_some (macro_at ms i) (rw e at h)

pub missing_empty : (w : List ℕ) (ms : List Macro) (i : ℕ) → find w ms ≡ Err i → shown w ms ≡ []
unfolding shown
missing_empty w ms i e = rw e
