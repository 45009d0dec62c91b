-- What is handed over, and refusal 1.
-- Assumes nothing.
use Rattle.std.specs.Prelude.{ℕ, Bool, ◌&&◌, List, leb, ltb, length}
use Rattle.macros.specs.Starting.{starts_fit}
use Rattle.handover.specs.Entries.{all_entries}

-- "byte store, include table, root entry, macro names defined empty, starting keyword set, replacement limit"
pub record HandOver : Type 0 where
  pub store : List ℕ
  pub table : List (List ℕ)
  pub root : ℕ
  pub starts : List (List ℕ)
  pub set : ℕ
  pub limit : ℕ

-- how long the lent text, map, macro records and macro bytes are
pub record Rooms : Type 0 where
  pub text : ℕ
  pub map : ℕ
  pub records : ℕ
  pub bytes : ℕ

-- refusal 1 is given exactly if not: "Files 1 to 64", "root no entry", "starting set none of the four", "macro bytes lent at
-- most 65,536", "text lent at most 16,777,215", start macros that fit
unfoldable pub is_sound : HandOver → Rooms → Bool
is_sound h r =
    ((leb 1 (length h.table) && leb (length h.table) 64) &&
    (ltb h.root (length h.table) && (leb h.set 3 && (leb r.text 16777215 && leb r.bytes 65536)))) &&
    (all_entries h.store h.table && starts_fit r.records r.bytes h.store h.starts)
