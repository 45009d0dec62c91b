-- A step in general: where it goes, and what it refuses; and those of `undef` and `undefineall`.
-- Assumes nothing.
use Prim.Native.Nat.{ℕ, zero, suc, ◌-◌, ◌<◌, ◌≤◌}
use mathlib.Core.List.{List, [], ◌∷◌}
use mathlib.Core.Path.{◌≡◌, refl, sym, ap, subst, subst⁻¹, ◌∙◌}
use native.Mathlib.Omega.{arith}
use lib.ListN.{length, get_or, drop, length-take}
use Rattle.text.specs.Bytes.{part}
use Rattle.lex.specs.declared.Token.{Token}
use Rattle.lex.specs.Tokens.{in_file, token_at}
use Rattle.lex.proofs.Progress.{Inside}
use Rattle.names.specs.Names.{Undef}
use Rattle.directive.specs.declared.MacroName.{MacroName}
use Rattle.directive.specs.declared.MacroName.TheVariants as name
use Rattle.directive.specs.Forms.{undef_at}
use Rattle.directive.proofs.Undefining.{form_of, undef-form}
use Rattle.definition.specs.Definitions.{Macro}
use Rattle.store.specs.Buffers.{Holds}
use Rattle.store.specs.Stores.{find, undefine}
use Rattle.std.proofs.Common.{Result, Ok as Present, Err as Absent}
use Rattle.store.proofs.Ordering.{undefine_length, undefine_missing}
use Rattle.settings.specs.declared.Settings.{Settings}
use Rattle.writing.specs.declared.Spot.{Spot}
use Rattle.writing.proofs.Laws.{puts_none}
use Rattle.places.specs.Places.{newlines, place_of}
use Rattle.places.proofs.Lines.{newlines_length}
use Rattle.blocks.specs.Stacks.{open_in}
use Rattle.handover.specs.Entries.{body_of}
use Rattle.copying.specs.declared.Cursor.{Cursor}
use Rattle.copying.specs.Cursors.{cursor_behind}
use Rattle.copying.specs.Copying.{Reads}
use Rattle.turns.specs.States.{Context, Frame, nothing, Turn, more, stop, Here, behind, go_to}
use Rattle.turns.specs.Acts as acts
use Rattle.turns.specs.Acts.{Act, undef_act}
use Rattle.turns.specs.Asking.{EndsIn}
use Rattle.turns.specs.Performing.{perform}
use Rattle.turns.proofs.Inside.{inside_on, token_inside}
use Rattle.turns.proofs.Forms.{BarredIn, form_inside, form_bars}
use Rattle.turns.proofs.Asking.{as_inside}
use Rattle.steps.specs.declared.stage.Stage.{Stage}
use Rattle.steps.specs.declared.stage.Step.{Step}
use Rattle.steps.specs.declared.stage.Step.TheVariants as step
use Rattle.steps.specs.Standing.{Bufs, bufs, blank_frame, outer_frames, open_frames, here_of, ended_at, with_cursor, FrameOk, Ok, Fixed, At, Moves, Stops, SteppedBy, MacrosBy}

-- ---- the open files

-- the innermost of at least one
pub open_first : (w : List (List ℕ)) (d file : ℕ) (c : Cursor) → 0 < d → open_frames w d file c ≡ record { file = file; cursor = c } ∷ outer_frames w (d - 1)
open_first w zero file c h = absurd (omega arith)
open_first w (suc n) file c h =
    let e : suc n - 1 ≡ n = omega arith in
    rw e

-- ---- a step in general

-- a stage at another place, with so many macros
abbrev pub placed_at : Stage → ℕ → ℕ → Cursor → ℕ → Stage
placed_at z d f c n =
    record {
      depth = d;
      file = f;
      cursor = c;
      blocks = z.blocks;
      macros = n;
      settings = z.settings;
      spot = z.spot;
      count = z.count;
      deepest = z.deepest;
    }

-- a stage with other macros, or another directive state
abbrev pub with_macros : Stage → ℕ → Stage
with_macros z n =
    record {
      depth = z.depth;
      file = z.file;
      cursor = z.cursor;
      blocks = z.blocks;
      macros = n;
      settings = z.settings;
      spot = z.spot;
      count = z.count;
      deepest = z.deepest;
    }

abbrev pub with_settings : Stage → Settings → Stage
with_settings z x =
    record {
      depth = z.depth;
      file = z.file;
      cursor = z.cursor;
      blocks = z.blocks;
      macros = z.macros;
      settings = x;
      spot = z.spot;
      count = z.count;
      deepest = z.deepest;
    }

-- with all that a step here may change
abbrev pub moved_to : Stage → Cursor → ℕ → Settings → Spot → Stage
moved_to z c n x y =
    record {
      depth = z.depth;
      file = z.file;
      cursor = c;
      blocks = z.blocks;
      macros = n;
      settings = x;
      spot = y;
      count = z.count;
      deepest = z.deepest;
    }

-- a turn that writes nothing
pub goes : (x : Context) (limit : ℕ) (tx mp bs bs' : List ℕ) (rs rs' fr fr' cd : List (List ℕ)) (ms ms' : List Macro) (z : Stage) (d f : ℕ) (c : Cursor) (n : ℕ)
    (gs : List Frame) (u : Turn)
    → u ≡ go_to (here_of x limit (bufs tx mp bs rs fr cd) ms z) gs (open_in cd z.blocks.open) ms'
    → open_frames fr' d f c ≡ gs → Holds ms' bs' rs' n
    → Moves limit (bufs tx mp bs rs fr cd) (bufs tx mp bs' rs' fr' cd) z (placed_at z d f c n) u
goes x limit tx mp bs bs' rs rs' fr fr' cd ms ms' z d f c n gs u e q h =
    record {
      macros = ms';
      made = nothing;
      turn_is = e ∙ ap (λ (gs : List Frame). go_to (here_of x limit (bufs tx mp bs rs fr cd) ms z) gs (open_in cd z.blocks.open) ms') (sym q);
      holds = h;
      puts = puts_none tx mp z.spot;
      count_is = omega arith;
      deepest_is = omega arith;
    }

pub ok_at : {fs : List ℕ} {es : List (List ℕ)} (tx mp bs bs' : List ℕ) (rs rs' fr fr' cd : List (List ℕ)) (z : Stage) (d f : ℕ) (c : Cursor) (n : ℕ)
    → Ok fs es (bufs tx mp bs rs fr cd) z → d ≤ 16 → f < length es → Reads (body_of fs es f) (place_of f 0) c
    → ((k : ℕ) → suc k < d → FrameOk fs es (get_or fr' k blank_frame)) → 16 ≤ length fr' → n ≤ 256
    → Ok fs es (bufs tx mp bs' rs' fr' cd) (placed_at z d f c n)
ok_at tx mp bs bs' rs rs' fr fr' cd z d f c n o a b r k l m =
    record {
      few_files = a;
      file_in = b;
      copyable = record { reads = r; in_text = o.copyable.in_text; in_map = o.copyable.in_map };
      outer = k;
      frames_lent = l;
      blocks_are = o.blocks_are;
      few_macros = m;
    }

-- a refusal of a number that is not 0, with nothing written
pub stops : (B B' : Bufs) (ms : List Macro) (z : Stage) (n p : ℕ) (u : Turn) → 0 < n → u ≡ stop n z.file p nothing
    → B'.text ≡ B.text → B'.map ≡ B.map → Holds ms B'.bytes B'.records z.macros → Stops B B' ms z z n z.file p u
stops B B' ms z zero p u a e t m h = absurd (omega arith)
stops B B' ms z (suc n) p u a e t m h =
    record {
      made = nothing;
      turn_is = e;
      holds = h;
      settings_same = refl;
      puts = rw (t, m) (puts_none B.text B.map z.spot);
      count_is = omega arith;
      deepest_is = omega arith;
    }

pub refuses : (fs : List ℕ) (es : List (List ℕ)) (limit : ℕ) (B : Bufs) (ms : List Macro) (z : Stage) (r : Step) (n p : ℕ) (u : Turn) → r ≡ ended_at z n z.file p
    → 0 < n → u ≡ stop n z.file p nothing → Holds ms B.bytes B.records z.macros → SteppedBy r fs es limit B B ms z u
refuses fs es limit B ms z r n p u q a e h = rw q (stops B B ms z n p u a e refl refl h)

-- a step that carried out the act v, where u is the same
pub as_act : (r : Step) (fs : List ℕ) (es : List (List ℕ)) (limit : ℕ) (B B' : Bufs) (ms : List Macro) (z : Stage) (h : Here) {u v : Act} → u ≡ v
    → SteppedBy r fs es limit B B' ms z (perform h v) → SteppedBy r fs es limit B B' ms z (perform h u)
as_act r fs es limit B B' ms z h e k = subst⁻¹ (λ (a : Act). SteppedBy r fs es limit B B' ms z (perform h a)) e k

-- ---- behind a directive

pub reads_behind : (s : List ℕ) (base : ℕ) (c : Cursor) (e : ℕ) → Reads s base c → Inside s c.at e → Reads s base (cursor_behind s e c)
unfolding cursor_behind
reads_behind s base c e r h =
    let k : newlines (part s c.at e) ≤ length (part s c.at e) = newlines_length (part s c.at e) in
    let l = length-take (e - c.at) (drop c.at s) in
    record { small = r.small; place_small = r.place_small; inside = h.within; line_small = omega (arith, r.line_small, h.past) }

module _ {fs : List ℕ} {es : List (List ℕ)} {B : Bufs} {z : Stage} {s : List ℕ} {t : Token} (a : At fs es s t z) (o : Ok fs es B z) where
  pub reads_here : Reads s (place_of z.file 0) z.cursor
  reads_here = subst (λ (b : List ℕ). Reads b (place_of z.file 0) z.cursor) a.body_is o.copyable.reads

  pub token_here : Inside s z.cursor.at t.end
  token_here = subst (λ (t : Token). Inside s z.cursor.at t.end) a.token_is (token_inside in_file s z.cursor.at reads_here.inside)

  pub reads_there : (e : ℕ) → Inside s t.end e → Reads (body_of fs es z.file) (place_of z.file 0) (cursor_behind s e z.cursor)
  reads_there e h =
      subst (λ (b : List ℕ). Reads b (place_of z.file 0) (cursor_behind s e z.cursor)) (sym a.body_is)
      (reads_behind s (place_of z.file 0) z.cursor e reads_here (inside_on token_here h))

-- the file and the token here
module _ {x : Context} {fs : List ℕ} {es : List (List ℕ)} {kind : ℕ} {B : Bufs} {z : Stage} {s : List ℕ} {t : Token} (f : Fixed x fs es kind B) (a : At fs es s t z) where
  pub body_here : body_of x.store x.table z.file ≡ s
  body_here = rw (f.store_is, f.table_is) a.body_is

  pub token_at_here : token_at in_file (body_of x.store x.table z.file) z.cursor.at ≡ t
  token_at_here = rw body_here a.token_is

  -- a directive's end, behind its token in the file
  pub inside_there : (limit : ℕ) (ms : List Macro) (e : ℕ) → Ok fs es B z
      → EndsIn (here_of x limit B ms z) e → Inside s t.end e
  inside_there limit ms e o i =
      rw (token_at_here, body_here) at (as_inside (here_of x limit B ms z) e (i (rw (token_at_here, body_here) (token_here a o).within)))

module _ (x : Context) (fs : List ℕ) (es : List (List ℕ)) (kind limit : ℕ) (tx mp bs bs' : List ℕ) (rs rs' fr cd : List (List ℕ)) (ms ms' : List Macro) (z : Stage)
    (s : List ℕ) (t : Token) (e n : ℕ) (u : Turn) where
  -- the turn goes behind a directive that ends at e, to other macros
  pub goes_behind : Fixed x fs es kind (bufs tx mp bs rs fr cd) → At fs es s t z → Ok fs es (bufs tx mp bs rs fr cd) z → Inside s t.end e
      → u ≡ go_to (here_of x limit (bufs tx mp bs rs fr cd) ms z) (behind (here_of x limit (bufs tx mp bs rs fr cd) ms z) e) (open_in cd z.blocks.open) ms'
      → Holds ms' bs' rs' n → n ≤ 256
      → Moves limit (bufs tx mp bs rs fr cd) (bufs tx mp bs' rs' fr cd) z (placed_at z z.depth z.file (cursor_behind s e z.cursor) n) u
      × Ok fs es (bufs tx mp bs' rs' fr cd) (placed_at z z.depth z.file (cursor_behind s e z.cursor) n)
  goes_behind f a o i q h l = (
    goes x limit tx mp bs bs' rs rs' fr fr cd ms ms' z z.depth z.file (cursor_behind s e z.cursor) n _ u q
        (open_first fr z.depth z.file (cursor_behind s e z.cursor) a.open_file
        ∙ ap (λ (b : List ℕ). record { file = z.file; cursor = cursor_behind b e z.cursor } ∷ outer_frames fr (z.depth - 1)) (sym (body_here f a)))
        h,
    ok_at tx mp bs bs' rs rs' fr fr cd z z.depth z.file (cursor_behind s e z.cursor) n o o.few_files o.file_in (reads_there a o e i)
        o.outer o.frames_lent l,
  )

-- ---- `undefineall`

pub undef_all_on : (s : List ℕ) (t : Token) (bs bs' : List ℕ) (rs rs' : List (List ℕ)) (z y : Stage)
    → y ≡ with_cursor z (cursor_behind s t.end z.cursor) → Holds [] bs' rs' 0
    → MacrosBy (step.On (placed_at y y.depth y.file y.cursor 0)) s t bs bs' rs rs' z (λ h. acts.undefines [] t.end)
undef_all_on s t bs bs' rs rs' z y q h fs es kind limit tx mp fr cd a x ms f o k =
    rw q
    (goes_behind x fs es kind limit tx mp bs bs' rs rs' fr cd ms [] z s t t.end 0 _ f a o
    (record { past = omega arith; within = (token_here a o).within }) refl h (omega arith))

-- ---- `undef`

-- no more macros than before
undefine_few : (w : List ℕ) (ms : List Macro) → length (undefine w ms) ≤ length ms
undefine_few w ms = go (find w ms) refl
  where
    go : (r : Result ℕ ℕ) → find w ms ≡ r → length (undefine w ms) ≤ length ms
    go (Present i) e = omega (arith, undefine_length w ms e)
    go (Absent i) e = omega (arith, ap length (undefine_missing w ms e))

pub undef_on : (s : List ℕ) (t : Token) (bs bs' : List ℕ) (rs rs' : List (List ℕ)) (z y : Stage) (g : MacroName) (a e n : ℕ) (w : List ℕ)
    → g ≡ undef_at s t.end → g ≡ name.Named a e → w ≡ part s a e
    → y ≡ with_cursor z (cursor_behind s e z.cursor)
    → ((ms : List Macro) → Holds ms bs rs z.macros → Holds (undefine w ms) bs' rs' n)
    → MacrosBy (step.On (placed_at y y.depth y.file y.cursor n)) s t bs bs' rs rs' z (λ h. undef_act h (undef_at s t.end))
undef_on s t bs bs' rs rs' z y g a e n w p q v c k fs es kind limit tx mp fr cd at x ms f o h =
    let r : undef_at s t.end ≡ name.Named a e = sym p ∙ q in
    let i : Inside s t.end e = form_inside s t.end (token_here at o).within Undef _ e (undef-form s t.end ∙ ap form_of r) in
    let m : Holds (undefine w ms) bs' rs' n = k ms h in
    let few : n ≤ 256 = omega (arith, m.count, undefine_few w ms, h.count, o.few_macros) in
    let H = here_of x limit (bufs tx mp bs rs fr cd) ms z in
    let turn : perform H (undef_act H (undef_at s t.end)) ≡ go_to H (behind H e) (open_in cd z.blocks.open) (undefine w ms) = rw (r, body_here f at, ← v) in
    rw c (goes_behind x fs es kind limit tx mp bs bs' rs rs' fr cd ms (undefine w ms) z s t e n (perform H (undef_act H (undef_at s t.end))) f at o i turn m few)

pub undef_unnamed : (s : List ℕ) (t : Token) (bs : List ℕ) (rs : List (List ℕ)) (z : Stage) (g : MacroName) (r : Step)
    → g ≡ undef_at s t.end → g ≡ name.Unnamed → r ≡ ended_at z 7 z.file t.at
    → MacrosBy r s t bs bs rs rs z (λ h. undef_act h (undef_at s t.end))
undef_unnamed s t bs rs z g r p q c fs es kind limit tx mp fr cd at x ms f o h =
    let H = here_of x limit (bufs tx mp bs rs fr cd) ms z in
    let y : undef_at s t.end ≡ name.Unnamed = sym p ∙ q in
    let turn : perform H (undef_act H (undef_at s t.end)) ≡ stop 7 z.file t.at nothing = rw (y, token_at_here f at) in
    refuses fs es limit (bufs tx mp bs rs fr cd) ms z r 7 t.at (perform H (undef_act H (undef_at s t.end))) c (omega arith) turn h

pub undef_barred : (s : List ℕ) (t : Token) (bs : List ℕ) (rs : List (List ℕ)) (z : Stage) (g : MacroName) (n i : ℕ) (r : Step)
    → g ≡ undef_at s t.end → g ≡ name.Barred n i → r ≡ ended_at z n z.file i
    → MacrosBy r s t bs bs rs rs z (λ h. undef_act h (undef_at s t.end))
undef_barred s t bs rs z g n i r p q c fs es kind limit tx mp fr cd at x ms f o h =
    let H = here_of x limit (bufs tx mp bs rs fr cd) ms z in
    let y : undef_at s t.end ≡ name.Barred n i = sym p ∙ q in
    let b : BarredIn s n i = form_bars s Undef t.end n i (undef-form s t.end ∙ ap form_of y) in
    let turn : perform H (undef_act H (undef_at s t.end)) ≡ stop n z.file i nothing = rw y in
    refuses fs es limit (bufs tx mp bs rs fr cd) ms z r n i (perform H (undef_act H (undef_at s t.end))) c (omega (arith, b.low)) turn h
