-- In every state of a run each macro is one that a `define` in a file gives, or one defined empty at the start.
-- Assumes nothing.
use Prim.Native.Nat.{ℕ}
use mathlib.Core.List.{List, []}
use Rattle.definition.specs.Definitions.{Macro, macro}
use Rattle.store.specs.Stores.{no_macro, macro_at, define, undefine}
use Rattle.macros.specs.Starting.{started_from}
use Rattle.macros.proofs.Each.{Each, each_get, each_define, each_undefine, each_started}
use Rattle.turns.specs.States.{Context}
use Rattle.claims.specs.Pieces.{Defined}

pub data Known (x : Context) : Macro → Type 0 where
  empty : (w : List ℕ) → Known x (macro w [] [])
  defined : {m : Macro} → Defined x m → Known x m

module _ (x : Context) where
  abbrev pub AllKnown : List Macro → Type 0
  AllKnown ms = Each (Known x) ms

  pub known_at : (ms : List Macro) (i : ℕ) → AllKnown ms → Known x (macro_at ms i)
  known_at ms i h = each_get (Known x) ms i no_macro h (empty [])

  pub known_define : (m : Macro) (ms : List Macro) → Known x m → AllKnown ms → AllKnown (define m ms)
  known_define = each_define (Known x)

  pub known_undefine : (w : List ℕ) (ms : List Macro) → AllKnown ms → AllKnown (undefine w ms)
  known_undefine = each_undefine (Known x)

  pub known_started : (s : List ℕ) (vs : List (List ℕ)) (ms : List Macro) → AllKnown ms → AllKnown (started_from s vs ms)
  known_started = each_started (Known x) (λ w. empty _)
