-- What the code knows of an include gives the act that it asks for.
-- Assumes nothing.
use Prim.Native.Nat.{ℕ, ◌-◌, ◌<◌, ◌≤◌}
use mathlib.Core.Bool.{Bool, true, false, ◌&&◌, ◌||◌}
use mathlib.Core.List.{List}
use mathlib.Core.Path.{◌≡◌}
use native.Mathlib.Omega.{arith}
use lib.Dec.{eqb}
use lib.ListN.{length, get_or}
use Rattle.std.specs.Prelude.{Ok, Err}
use borrow.Author.Tests.{eq-eqb, ne_eqb, le-leb, lt-leb}
use Rattle.text.specs.Bytes.{part}
use Rattle.lex.specs.declared.Token.{Token}
use Rattle.lex.specs.Faults.{fault}
use Rattle.lex.proofs.Progress.{Inside}
use Rattle.directive.specs.declared.FileName.TheVariants.{Unnamed, Quoted, Angled}
use Rattle.directive.specs.declared.IncludeLine.{IncludeLine}
use Rattle.directive.specs.Include.{include_at}
use Rattle.handover.specs.Entries.{entry_of}
use Rattle.turns.specs.States.{Here}
use Rattle.turns.specs.Acts.{enter_act, include_act}
use Rattle.turns.specs.Asking.{EndsIn}
use Rattle.turns.proofs.Forms.{include_inside}
use Rattle.turns.proofs.Asking.{ends_at}
use Rattle.including.specs.Including.{Entered, IncludeHere, EnteredBy}

-- no file of that form and name may be included on this line
abbrev pub barred_by : Bool → IncludeLine → ℕ → List ℕ → Bool
barred_by other l form w = other || (l.other || (eqb form 1 && eqb (get_or w 0 0) 47))

module _ (store : List ℕ) (table : List (List ℕ)) (s : List ℕ) (t : Token) (other : Bool) (depth : ℕ) (l : IncludeLine) where
  module _ (form : ℕ) (w : List ℕ) where
    -- the answer to a file of that form and name
    abbrev Enter : Entered → Type 0
    Enter r = (h : Here) → IncludeHere h store table s t other depth → EndsIn h l.end → EnteredBy r h (enter_act h l form w) table depth

    -- 9: the line or the name bars it
    pub enter_barred : barred_by other l form w ≡ true → Enter (Err (fault 9 t.at))
    enter_barred e h x y = (rw (x.other_is, e, x.token_is), omega arith)

    module _ (i : ℕ) (e : barred_by other l form w ≡ false) (f : i ≡ entry_of store form w table) where
      -- 9: no entry of the table has it
      pub enter_missing : length table ≤ i → Enter (Err (fault 9 t.at))
      enter_missing g h x y = (rw (x.other_is, e, x.store_is, x.table_is, ← f, le-leb (length table) i g, x.token_is), omega arith)

      module _ (g : i < length table) where
        -- 10: 16 files are open
        pub enter_deep : 16 ≤ depth → Enter (Err (fault 10 t.at))
        enter_deep d h x y =
            let k : length h.others ≡ depth - 1 = x.depth_is in (
              rw (x.other_is, e, x.store_is, x.table_is, ← f, lt-leb (length table) i g, le-leb 15 (length h.others) (omega arith), x.token_is),
              omega arith,
            )

        -- the file is entered
        pub enter_into : 0 < depth → depth < 16 → Enter (Ok (i, l.end))
        enter_into p d h x y =
            let k : length h.others ≡ depth - 1 = x.depth_is in
            record {
              act_is = rw (x.other_is, e, x.store_is, x.table_is, ← f, lt-leb (length table) i g, lt-leb 15 (length h.others) (omega arith));
              entry_in = g;
              room = d;
              ends = y;
            }

  module _ (q : l ≡ include_at s t.end) where
    -- the answer to the include
    abbrev Include : Entered → Type 0
    Include r = (h : Here) → IncludeHere h store table s t other depth → EnteredBy r h (include_act h (include_at s t.end)) table depth

    -- 2 to 6 on the line
    pub include_barred : (l.bars.number ≡ 0 → ⊥) → Include (Err l.bars)
    include_barred n h x = (rw (← q, ne_eqb l.bars.number 0 n), omega (arith, n))

    module _ (n : l.bars.number ≡ 0) where
      -- 7: no file is named
      pub include_unnamed : l.file ≡ Unnamed → Include (Err (fault 7 t.at))
      include_unnamed f h x = (rw (← q, eq-eqb l.bars.number 0 n, f, x.token_is), omega arith)

      line_ends : (h : Here) → IncludeHere h store table s t other depth → EndsIn h l.end
      line_ends h x w =
          let i : Inside h.body h.token.end l.end = rw (x.body_is, x.token_is, q) (include_inside s t.end (rw (x.body_is, x.token_is) at w)) in
          ends_at h l.end i

      module _ (a e : ℕ) (r : Entered) where
        -- a file in quotes is entered by its name
        pub include_quoted : l.file ≡ Quoted a e → Enter 0 (part s a e) r → Include r
        include_quoted f k h x =
            let u : include_act h (include_at s t.end) ≡ enter_act h l 0 (part s a e) = rw (← q, eq-eqb l.bars.number 0 n, f, x.body_is) in
            rw u (k h x (line_ends h x))

        -- .. or in angle brackets
        pub include_angled : l.file ≡ Angled a e → Enter 1 (part s a e) r → Include r
        include_angled f k h x =
            let u : include_act h (include_at s t.end) ≡ enter_act h l 1 (part s a e) = rw (← q, eq-eqb l.bars.number 0 n, f, x.body_is) in
            rw u (k h x (line_ends h x))
