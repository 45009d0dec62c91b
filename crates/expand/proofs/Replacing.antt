-- A usage replaced: the macro's text put in its place, or the refusal.
-- Assumes nothing.
use Prim.Native.Nat.{ℕ, zero, suc, ◌+◌, ◌-◌, ◌<◌, ◌≤◌}
use mathlib.Core.Bool.{false}
use mathlib.Core.List.{List, ◌++◌}
use mathlib.Core.Path.{◌≡◌, refl, sym, ap, ◌∙◌}
use native.Mathlib.Omega.{arith}
use lib.ListN.{length, take, drop, get_or, length-append}
use borrow.Author.Tests.{lt-ltb}
use Rattle.definition.specs.Definitions.{Parameter, Macro, macro}
use Rattle.packed.specs.Records.{blank_record, RecordIs}
use Rattle.packed.specs.declared.Record.{Record}
use Rattle.store.specs.Stores.{macro_at, macro_text, find}
use Rattle.store.specs.Buffers.{Holds}
use Rattle.sets.specs.Sets.{insert_asc}
use Rattle.writing.specs.Written.{Room}
use Rattle.pending.specs.Pending.{Pending}
use Rattle.pending.specs.References.{pendings, stacked}
use Rattle.pending.specs.Sources.{items_from}
use Rattle.pending.specs.Adding.{Adds, AddsBy}
use Rattle.pending.proofs.Seeing.{stacked_length}
use Rattle.arguments.specs.Ranges.{Ranged}
use Rattle.lex.specs.declared.Fault.{Fault}
use Rattle.replace.specs.Tidying.{tidy_all}
use Rattle.replace.specs.Placing.{MacroIn, UsageIn, Stacks}
use Rattle.replace.specs.Replacing.{barred, Got, refused, got, text_with, list_for, with_list, replace_by, replace, deepest}
use Rattle.std.proofs.Common.{Option, Some, None, Result, Ok, Err}
use Rattle.expand.specs.declared.Stand.{Stand}
use Rattle.expand.specs.declared.Turn.{Turn}
use Rattle.expand.specs.declared.Turn.TheVariants as turn
use Rattle.expand.specs.Expanding.{Outer, ends, on_got, onward}
use Rattle.expand.specs.Standing.{CalledBy, Accepts, AcceptedBy, left_of, replaced_to, Puts, PutBy, ReplacedBy}
use Rattle.expand.proofs.Calling.{formals_of, macro_in}

-- ---- the text put in

-- more replacements than allowed
pub puts_18 : (q rest : List Pending) (limit : ℕ) (z : Stand) → limit ≤ z.count → (o : Outer) (ms : List Macro) (r : Room) → onward (left_of limit z) o ms q rest r ≡ ends 18 0 r
unfolding onward
puts_18 q rest limit z h o ms r = let e : limit - z.count ≡ 0 = omega arith in rw e

-- a pending list over 1,024
puts_17 : (q rest : List Pending) (limit : ℕ) (z : Stand) → z.count < limit → 1024 < length (q ++ rest)
    → (o : Outer) (ms : List Macro) (r : Room) → onward (left_of limit z) o ms q rest r ≡ ends 17 0 r
unfolding onward
puts_17 q rest limit z h k o ms r =
    let e : limit - z.count ≡ suc (limit - z.count - 1) = omega arith in
    rw (e, lt-ltb 1024 (length (q ++ rest)) k)

-- what the code knows once the text is read: its tokens added to o, which is o' then
module _ (s b : List ℕ) (o o' : List (List ℕ)) (base : ℕ) (q : List Pending) (w : Option ℕ) (a : AddsBy w s b o o' (1024 - base) 0 q) where
  pub fits_list : (m : ℕ) → w ≡ Some m → base ≤ 1024 → base + m ≤ 1024
  fits_list m e h = let d : Adds s b o o' (1024 - base) 0 m q = rw e at a in omega (arith, d.fits)

  pub fits_out : (m : ℕ) → w ≡ Some m → 1024 ≤ length o → m ≤ length o'
  fits_out m e h = let d : Adds s b o o' (1024 - base) 0 m q = rw e at a in omega (arith, d.fits, d.same_length)

  pub puts_full : (l : List (List ℕ)) (limit : ℕ) (z : Stand) → w ≡ None → base ≤ 1024 → z.count < limit
      → (u : Outer) (ms : List Macro) (r : Room) → onward (left_of limit z) u ms q (stacked s b l base) r ≡ ends 17 0 r
  puts_full l limit z e h c =
      let d : (1024 - base < 0 + length q) × (length o' ≡ length o) = rw e at a in
      let n : length (stacked s b l base) ≡ base = stacked_length s b l base in
      puts_17 q (stacked s b l base) limit z c (omega (arith, d.0, length-append q (stacked s b l base)))

  pub puts_on : {l l' : List (List ℕ)} {d : ℕ} (m limit : ℕ) (z z' : Stand) → w ≡ Some m → base ≤ 1024 → z.count < limit → Stacks s b l l' base o' m d
      → z' ≡ replaced_to z (base + m) d → Puts s b l' q (stacked s b l base) limit z z'
  unfolding pendings
  puts_on {l} {l'} {d} m limit z z' e h c k g =
      let y : Adds s b o o' (1024 - base) 0 m q = rw e at a in
      let n : length (stacked s b l base) ≡ base = stacked_length s b l base in
      let x : length (q ++ stacked s b l base) ≡ base + m = omega (arith, y.count, length-append q (stacked s b l base)) in
      let p : pendings s b (take m o') ≡ q = y.tokens in
      record {
        allowed = c;
        few = omega (arith, y.fits);
        stand = g ∙ ap (λ (j : ℕ). replaced_to z j d) (sym x) ∙ ap (λ (j : ℕ). replaced_to z (length (q ++ stacked s b l base)) j) (k.depth ∙ ap deepest p);
        tokens = ap (λ (j : ℕ). stacked s b l' j) x ∙ k.tokens ∙ ap (λ (j : List Pending). j ++ stacked s b l base) p;
      }

-- ---- the tokens behind a list of a usage

pub stacked_drop : (s b : List ℕ) (l : List (List ℕ)) (n e : ℕ) → e ≤ n → drop e (stacked s b l n) ≡ stacked s b l (n - e)
unfolding stacked
stacked_drop s b l n zero h = let e : n - 0 ≡ n = omega arith in rw e
stacked_drop s b l zero (suc e) h = absurd (omega arith)
stacked_drop s b l (suc n) (suc e) h = let k : suc n - suc e ≡ n - e = omega arith in stacked_drop s b l n e (omega arith) ∙ ap (stacked s b l) (sym k)

-- in the pending list
pub items_list : (s b : List ℕ) (l : List (List ℕ)) (n e : ℕ) → e ≤ n → items_from s b l n false e ≡ stacked s b l (n - e)
unfolding items_from
items_list s b l n e h = stacked_drop s b l n e h

pub items_all : (s b : List ℕ) (l : List (List ℕ)) (n : ℕ) → items_from s b l n false 0 ≡ stacked s b l n
items_all s b l n = let e : n - 0 ≡ n = omega arith in items_list s b l n 0 (omega arith) ∙ ap (stacked s b l) e

-- ---- the answer to a replacement

replace-by : (m : Macro) (set : List ℕ) (ps : List Pending) → replace_by m set ps ≡ with_list set (formals_of m) (macro_text m) (list_for (formals_of m) ps)
replace-by (macro n fs t) set ps = refl

module _ (ms : List Macro) (w set : List ℕ) (ps : List Pending) where
  replace_refused : (n k : ℕ) → CalledBy (Err k) (find w ms) ms set n → replace ms w set ps ≡ refused k 0
  unfolding replace
  replace_refused n k h = h ps

  module _ (n i : ℕ) (h : CalledBy (Ok i) (find w ms) ms set n) where
    replace_macro : replace ms w set ps ≡ with_list (insert_asc i set) (formals_of (macro_at ms i)) (macro_text (macro_at ms i)) (list_for (formals_of (macro_at ms i)) ps)
    unfolding replace
    replace_macro = rw (h.0, h.1) (replace-by (macro_at ms i) (insert_asc i set) ps)

    replace_barred : (k p : ℕ) → list_for (formals_of (macro_at ms i)) ps ≡ barred k p → replace ms w set ps ≡ refused k p
    replace_barred k p e = replace_macro ∙ ap (with_list (insert_asc i set) (formals_of (macro_at ms i)) (macro_text (macro_at ms i))) e

    replace_got : {f : ℕ → List Pending} {last : ℕ} {ranges : List (List ℕ)} {c e : ℕ} (a : Accepts (list_for (formals_of (macro_at ms i)) ps) f last ranges c e)
        → replace ms w set ps ≡ got (text_with (insert_asc i set) (formals_of (macro_at ms i)) (tidy_all a.arguments) (macro_text (macro_at ms i))) (f e)
    replace_got a = replace_macro ∙ ap (with_list (insert_asc i set) (formals_of (macro_at ms i)) (macro_text (macro_at ms i))) a.shape

-- a usage g gives way to `new`, put on `rest` by the turn u, and `next` follows it
pub record Gives (u : Turn) (s b : List ℕ) (l' : List (List ℕ)) (g : Got) (next rest : List Pending) (limit : ℕ) (z : Stand) : Type 0 where
  pub new : List Pending
  pub shape : g ≡ got new next
  pub put : PutBy u s b l' new rest limit z

-- what the code knows of a usage of w, of bytes and records that hold ms: the answer o to the search for the macro
module _ {ms : List Macro} {b : List ℕ} {r : List (List ℕ)} {n : ℕ} (h : Holds ms b r n) (w set : List ℕ) (o : Result ℕ ℕ) (a : CalledBy o (find w ms) ms set n) where
  pub called_refused : (k : ℕ) → o ≡ Err k → (ps : List Pending) → replace ms w set ps ≡ refused k 0
  called_refused k e ps = let d : CalledBy (Err k) (find w ms) ms set n = rw e at a in replace_refused ms w set ps n k d

  module _ (i : ℕ) (e : o ≡ Ok i) where
    called_macro : CalledBy (Ok i) (find w ms) ms set n
    called_macro = rw e at a

    pub called_below : i < n
    called_below = called_macro.2

    -- .. its record q, and the answer y to the search for its list
    module _ (small : length b ≤ 65536) {q : Record} (k : RecordIs (get_or r i blank_record) q) (f : ℕ → List Pending) (last : ℕ) (ranges : List (List ℕ)) (ps : List Pending) (y : Result (ℕ × ℕ) Fault)
        (g : (fs : List Parameter) (t : List ℕ) → MacroIn b q fs t → AcceptedBy y (list_for fs ps) f last ranges) where
      lies : MacroIn b q (formals_of (macro_at ms i)) (macro_text (macro_at ms i))
      lies = macro_in h small i called_below k

      answers : AcceptedBy y (list_for (formals_of (macro_at ms i)) ps) f last ranges
      answers = g (formals_of (macro_at ms i)) (macro_text (macro_at ms i)) lies

      pub list_barred : (v : Fault) → y ≡ Err v → replace ms w set ps ≡ refused v.number v.place
      list_barred v d = let x : list_for (formals_of (macro_at ms i)) ps ≡ barred v.number v.place = rw d at answers in replace_barred ms w set ps n i called_macro v.number v.place x

      module _ (c end : ℕ) (d : y ≡ Ok (c, end)) where
        list_accepted : Accepts (list_for (formals_of (macro_at ms i)) ps) f last ranges c end
        list_accepted = rw d at answers

        pub list_within : end ≤ last
        list_within = list_accepted.within

        pub list_usage : UsageIn b q f last ranges c
        list_usage =
            record {
              formals = formals_of (macro_at ms i);
              text = macro_text (macro_at ms i);
              arguments = list_accepted.arguments;
              macro_in = lies;
              count = list_accepted.count;
              ranged = list_accepted.ranged;
              unplaced = list_accepted.unplaced;
            }

        -- .. and the answer u to the text put in
        pub list_gives : (s : List ℕ) (l' : List (List ℕ)) (rest : List Pending) (limit : ℕ) (z : Stand) (u : Turn)
            → ((fs : List Parameter) (t : List ℕ) (xs : List (List Pending)) → MacroIn b q fs t → c ≡ length xs → Ranged f last ranges xs
            → PutBy u s b l' (text_with (insert_asc i set) fs (tidy_all xs) t) rest limit z)
            → Gives u s b l' (replace ms w set ps) (f end) rest limit z
        list_gives s l' rest limit z u v =
            let x : Accepts (list_for (formals_of (macro_at ms i)) ps) f last ranges c end = list_accepted in
            record {
              new = text_with (insert_asc i set) (formals_of (macro_at ms i)) (tidy_all x.arguments) (macro_text (macro_at ms i));
              shape = replace_got ms w set ps n i called_macro x;
              put = v (formals_of (macro_at ms i)) (macro_text (macro_at ms i)) x.arguments lies x.count x.ranged;
            }

-- ---- a usage in the pending list

pub replaced_refused : (ms : List Macro) (limit : ℕ) (z : Stand) (g : Got) (k p : ℕ) → g ≡ refused k p
    → (o : Outer) (r : Room) → on_got (onward (left_of limit z) o ms) r g ≡ ends k p r
replaced_refused ms limit z g k p e o r = rw e

replaced_by : (s b : List ℕ) (l' : List (List ℕ)) (ms : List Macro) (limit : ℕ) (z : Stand) (u : Turn) (g : Got) (new rest : List Pending) → g ≡ got new rest
    → PutBy u s b l' new rest limit z → ReplacedBy u s b l' g ms limit z
replaced_by s b l' ms limit z (turn.On z') g new rest e h = record { new = new; rest = rest; shape = e; puts = h }
replaced_by s b l' ms limit z (turn.Ended k p) g new rest e h = λ o r. rw e (h o ms r)

pub replaced_list : (s b : List ℕ) (l l' : List (List ℕ)) (n e : ℕ) (ms : List Macro) (w set : List ℕ) (limit : ℕ) (z : Stand) (u : Turn) → e ≤ n
    → Gives u s b l' (replace ms w set (items_from s b l n false 0)) (items_from s b l n false e) (stacked s b l (n - e)) limit z
    → ReplacedBy u s b l' (replace ms w set (stacked s b l n)) ms limit z
replaced_list s b l l' n e ms w set limit z u h g =
    replaced_by s b l' ms limit z u (replace ms w set (stacked s b l n)) g.new (stacked s b l (n - e))
    (ap (replace ms w set) (sym (items_all s b l n)) ∙ g.shape ∙ ap (got g.new) (items_list s b l n e h))
    g.put
