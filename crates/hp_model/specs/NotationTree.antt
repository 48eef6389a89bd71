-- What the reader of a text gives: the values that JSON has, each with the offset at which it begins in the text.
use Rattle.std.specs.Prelude.{ℕ, ℤ, pos, negsuc, Bool, List, [], ◌∷◌, codes, Option, Some, None, Result}
use Rattle.serde_json.specs.Data.{Data, unsigned, negative, boolean, number, string, array, object, Items, no_items, item, Members, no_members, put}
use Rattle.hp_model.specs.NotationTokens.{Tokens}

mutual
  pub data Node : Type 0 where
    integer : (at : ℕ) → ℤ → Node
    truth : (at : ℕ) → Bool → Node
    text : (at : ℕ) → List ℕ → Node
    list : (at : ℕ) → Nodes → Node

  pub data Nodes : Type 0 where
    no_nodes : Nodes
    node : Node → Nodes → Nodes

-- the members of a script's root
pub record Script : Type 0 where
  pub at : ℕ
  pub version : Node
  pub depth : Option Node
  pub classes : Node
  pub rules : Node
  pub items : Node

abbrev pub nodes : List Node → Nodes
nodes [] = no_nodes
nodes (n ∷ ns) = node n (nodes ns)

-- a form `[word, ..]`. Its word has the form's own place
abbrev pub form : (at : ℕ) → List ℕ → List Node → Node
form at word parts = list at (node (text at word) (nodes parts))

abbrev pub offset : Node → ℕ
offset (integer at z) = at
offset (truth at b) = at
offset (text at s) = at
offset (list at ns) = at

-- ---- the values of JSON

abbrev pub number_data : ℤ → Data
number_data (pos n) = number (unsigned n)
number_data (negsuc n) = number (negative (negsuc n))

abbrev mutual
  pub data_of : Node → Data
  data_of (integer at z) = number_data z
  data_of (truth at b) = boolean b
  data_of (text at s) = string s
  data_of (list at ns) = array (items_of ns)

  pub items_of : Nodes → Items
  items_of no_nodes = no_items
  items_of (node n ns) = item (data_of n) (items_of ns)

abbrev pub with_depth : Option Data → Members → Members
with_depth None members = members
with_depth (Some d) members = put (codes "depth") d members

-- an object with these members
abbrev pub root_data : (version : Data) → (depth : Option Data) → (classes rules items : Data) → Data
root_data version depth classes rules items =
    object (put (codes "version") version (with_depth depth (put (codes "classes") classes (put (codes "rules") rules (put (codes "items") items no_members)))))

abbrev pub data_if_any : Option Node → Option Data
data_if_any None = None
data_if_any (Some n) = Some (data_of n)

-- what `decode` takes
abbrev pub script_data : Script → Data
script_data s = root_data (data_of s.version) (data_if_any s.depth) (data_of s.classes) (data_of s.rules) (data_of s.items)

-- ---- phrases

-- reads a phrase: what it means, and the tokens after it; or the offset of the first fault
abbrev pub Phrase : Type 0 → Type 0
Phrase A = Tokens → Result (A × Tokens) ℕ
