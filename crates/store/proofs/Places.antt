-- What the code knows of a macro's form once it has read its record and where the last form ends, and a macro taken out.
-- Assumes nothing.
use mathlib.Core.Path.{◌≡◌, sym, ap, ◌∙◌, subst}
use mathlib.Core.List.{List, []}
use Prim.Native.Nat.{ℕ, ◌+◌, ◌-◌, ◌≤◌, ◌<◌}
use native.Mathlib.Omega.{arith}
use lib.ListN.{length, take, get_or}
use lib.Seq.{take_all}
use Rattle.definition.specs.Definitions.{Macro}
use Rattle.form.specs.Forms.{form_of, text_start}
use Rattle.packed.specs.Splicing.{spliced}
use Rattle.packed.specs.Records.{blank_record, RecordIs, moved_from}
use Rattle.packed.specs.declared.Record.{Record}
use Rattle.std.proofs.Common.{Result, Ok, Err}
use Rattle.store.specs.Stores.{macro_text, macro_at, remove_at, encode, find, undefine_by, undefine}
use Rattle.store.specs.Buffers.{Holds}
use Rattle.store.proofs.Entries.{start, form_length, bytes_fit, Told, told, entry}
use Rattle.store.proofs.Rooms.{form_within, holds_remove}
use Rattle.store.proofs.Ordering.{find_at_lt}

-- the form of macro i, of which q is the record, among `live` live bytes
pub record Place (ms : List Macro) (b : List ℕ) (i : ℕ) (q : Record) (live : ℕ) : Type 0 where
  pub start_is : q.start ≡ length (encode (take i ms))
  pub size_is : q.text + q.size - q.start ≡ length (form_of (macro_at ms i))
  pub live_is : live ≡ length (encode ms)
  pub ordered : q.start ≤ q.text + q.size
  pub within : q.start + (q.text + q.size - q.start) ≤ live
  pub live_fits : live ≤ length b

-- `start_of` at the end
pub live_all : {ms : List Macro} {b : List ℕ} {r : List (List ℕ)} {n : ℕ} {live : ℕ} → Holds ms b r n → live ≡ start ms n → live ≡ length (encode ms)
live_all {ms} {b} {r} {n} h e = e ∙ ap (λ (x : List Macro). length (encode x)) (take_all n ms (omega (arith, h.count)))

pub place : {ms : List Macro} {b : List ℕ} {r : List (List ℕ)} {n i live : ℕ} {q : Record} → Holds ms b r n → i < n → RecordIs (get_or r i blank_record) q → live ≡ start ms n → Place ms b i q live
place {ms} {b} {r} {n} {i} {live} {q} h l k e =
    let t : Told (start ms i) (macro_at ms i) q = told (entry h i l) k in
    let f : length (form_of (macro_at ms i)) ≡ text_start (macro_at ms i) + length (macro_text (macro_at ms i)) = form_length (macro_at ms i) in
    let v : live ≡ length (encode ms) = live_all h e in
    let w : start ms i + length (form_of (macro_at ms i)) ≤ length (encode ms) = form_within i ms (omega (arith, h.count)) in
    let g : length (encode ms) ≤ length b = bytes_fit h in
    record {
      start_is = t.start_is;
      size_is = omega arith;
      live_is = v;
      ordered = omega arith;
      within = omega arith;
      live_fits = omega arith;
    }

-- what is left of the buffers once macro i is out
pub taken_out : {ms : List Macro} {b : List ℕ} {r : List (List ℕ)} {n i live : ℕ} {q : Record} {b' : List ℕ} {r₁ r' : List (List ℕ)} → Holds ms b r n → i < n → length b ≤ 65536
    → RecordIs (get_or r i blank_record) q → live ≡ start ms n → b' ≡ spliced 0 b q.start (q.text + q.size - q.start) [] live → r₁ ≡ spliced blank_record r i 1 [] n
    → r' ≡ moved_from 0 (q.text + q.size - q.start) i (n - 1) r₁ → Holds (remove_at i ms) b' r' (n - 1)
taken_out {ms} {b} {r} {n} {i} {live} {q} {b'} {r₁} {r'} h l s k e eb er₁ er =
    let p : Place ms b i q live = place h l k e in
    holds_remove h i q.start (q.text + q.size - q.start) live l p.start_is p.size_is p.live_is s b' r₁ r' eb er₁ er

-- ---- by name

-- what the search answered, of buffers that hold ms
module _ (w : List ℕ) {ms : List Macro} {b : List ℕ} {r : List (List ℕ)} {n : ℕ} {f : Result ℕ ℕ} (h : Holds ms b r n) (e : f ≡ find w ms) where
  pub found_below : (i : ℕ) → f ≡ Ok i → i < n
  found_below i a = omega (arith, find_at_lt w ms (sym e ∙ a), h.count)

  undefined_by : (g : Result ℕ ℕ) → f ≡ g → undefine w ms ≡ undefine_by g ms
  unfolding undefine
  undefined_by g a = ap (λ (x : Result ℕ ℕ). undefine_by x ms) (sym e ∙ a)

  pub undefined_at : (i : ℕ) → f ≡ Ok i → {b' : List ℕ} {r' : List (List ℕ)} → Holds (remove_at i ms) b' r' (n - 1) → Holds (undefine w ms) b' r' (n - 1)
  undefined_at i a {b'} {r'} o = subst (λ (x : List Macro). Holds x b' r' (n - 1)) (sym (undefined_by (Ok i) a)) o

  pub undefined_missing : (i : ℕ) → f ≡ Err i → Holds (undefine w ms) b r n
  undefined_missing i a = subst (λ (x : List Macro). Holds x b r n) (sym (undefined_by (Err i) a)) h
