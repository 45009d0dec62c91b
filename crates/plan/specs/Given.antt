-- What the words of the command line give.
-- Assumes nothing.
use Rattle.std.specs.Prelude.{ℕ, ◌+◌, ◌-◌, ◌==◌, Bool, true, false, cond, nat_eq, nat_lt, is_some, Option, Some, None, List, [], ◌∷◌, length, slice_get}
use Rattle.std.specs.List.{starts_with, position_or_len, after_first}
use Rattle.plan.specs.declared.items.FileKind.{FileKind}
use Rattle.plan.specs.declared.items.FileKind.TheVariants.{Root, Included, Angled, Found, Made, Input}
use Rattle.plan.specs.declared.items.Item.{Item}
use Rattle.plan.specs.declared.items.Item.TheVariants.{File, Folder, Macro, «List» as Words}

-- whether a file of that kind is a root
abbrev pub is_root_kind : FileKind → Bool
is_root_kind Root = true
is_root_kind Included = false
is_root_kind Angled = false
is_root_kind Found = false
is_root_kind Made = false
is_root_kind Input = true

-- the byte `=`
abbrev pub is_equals : ℕ → Bool
is_equals b = b == 61

-- the value in NAME=VALUE, if the word has one
abbrev pub value_in : List ℕ → Option (List ℕ)
value_in word = cond (nat_lt (position_or_len is_equals word) (length word)) (Some (after_first is_equals word)) None

-- a name without a leading `\`
abbrev pub plain : List ℕ → List ℕ
plain [] = []
plain (b ∷ name) = cond (b == 92) name (b ∷ name)

-- whether an item is a root file
abbrev pub is_root_item : Item → Bool
is_root_item (File file) = is_root_kind file.kind
is_root_item (Folder path) = false
is_root_item (Macro given) = false
is_root_item (Words path) = false

-- whether an item is a macro with a value
abbrev pub has_value_item : Item → Bool
has_value_item (File file) = false
has_value_item (Folder path) = false
has_value_item (Macro given) = is_some (value_in given.word.items)
has_value_item (Words path) = false

-- the length of a folder with the slash behind it: the last byte of its name, or the next of the path
abbrev pub with_slash : List ℕ → List ℕ → Option ℕ → Option ℕ → ℕ
with_slash path dir None next = 0
with_slash path dir (Some b) None = cond (b == 47) (length dir) 0
with_slash path dir (Some b) (Some c) = cond (b == 47) (length dir) (cond (c == 47) (length dir + 1) 0)

-- how many bytes of a path its leading folder takes
abbrev pub folder_length : List ℕ → List ℕ → ℕ
folder_length path dir = cond (starts_with nat_eq path dir) (with_slash path dir (slice_get dir (length dir - 1)) (slice_get path (length dir))) 0
