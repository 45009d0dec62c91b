-- Usages that name a macro of the set and are followed by a list that it accepts.
-- Assumes nothing.
use Prim.Native.Nat.{ℕ}
use mathlib.Core.Bool.{true, false}
use mathlib.Core.Path.{◌≡◌}
use mathlib.Core.List.{List, [], ◌∷◌, ◌++◌}
use Rattle.definition.specs.Definitions.{Parameter, Macro}
use Rattle.store.specs.Stores.{macro_at, find}
use Rattle.std.proofs.Common.{Ok}
use Rattle.pending.specs.Pending.{View, calls, is_call}
use Rattle.replace.specs.Replacing.{enough}
use Rattle.passing.specs.Passing.{formals_of}
use Rattle.passing.proofs.Lists.{Listed, listed_more}

-- the list that a macro with these formals seeks
pub data Needs : List Parameter → List View → Type 0 where
  needs_none : {vs : List View} → Needs [] vs
  needs_list : {f : Parameter} {fs : List Parameter} {vs : List View} (n : ℕ) → Listed vs n → enough (f ∷ fs) n ≡ true → Needs (f ∷ fs) vs

pub record Good (ms : List Macro) (w : List ℕ) (vs : List View) : Type 0 where
  pub number : ℕ
  pub stored : find w ms ≡ Ok number
  pub list : Needs (formals_of (macro_at ms number)) vs

-- every usage among these is a good one
pub data Fine (ms : List Macro) : List View → Type 0 where
  fine_nil : Fine ms []
  fine_call : {v : View} {w : List ℕ} {vs : List View} → v ≡ calls w → Good ms w vs → Fine ms vs → Fine ms (v ∷ vs)
  fine_plain : {v : View} {vs : List View} → is_call v ≡ false → Fine ms vs → Fine ms (v ∷ vs)

needs_map : {fs : List Parameter} {vs us : List View} → ((n : ℕ) → Listed vs n → Listed us n) → Needs fs vs → Needs fs us
needs_map k needs_none = needs_none
needs_map k (needs_list n l e) = needs_list n (k n l) e

pub good_map : {ms : List Macro} {w : List ℕ} {vs us : List View} → ((n : ℕ) → Listed vs n → Listed us n) → Good ms w vs → Good ms w us
good_map k g = record { number = g.number; stored = g.stored; list = needs_map k g.list }

pub fine_tail : {ms : List Macro} {v : View} {vs : List View} → Fine ms (v ∷ vs) → Fine ms vs
fine_tail (fine_call e g f) = f
fine_tail (fine_plain e f) = f

pub fine_head : {ms : List Macro} {v : View} {vs us : List View} → ((n : ℕ) → Listed vs n → Listed us n) → Fine ms (v ∷ vs) → Fine ms us → Fine ms (v ∷ us)
fine_head k (fine_call e g f) h = fine_call e (good_map k g) h
fine_head k (fine_plain e f) h = fine_plain e h

pub fine_append : {ms : List Macro} {a b : List View} → Fine ms a → Fine ms b → Fine ms (a ++ b)
fine_append fine_nil h = h
fine_append {b = b} (fine_call e g f) h = fine_call e (good_map (λ n l. listed_more b l) g) (fine_append f h)
fine_append (fine_plain e f) h = fine_plain e (fine_append f h)
