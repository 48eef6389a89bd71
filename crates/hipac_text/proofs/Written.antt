-- A script's JSON, piece by piece.
use Rattle.std.proofs.Common.{◌≡◌, refl, ap, ◌∙◌, ℕ, false, ◌||◌, pos, negsuc, List, [], ◌++◌, append_assoc}
use Rattle.serde_json.specs.Data.{Data}
use Rattle.serde_json.specs.Written.{has_float, items_have_float, compact_text}
use Rattle.hp_model.specs.NotationTree.{Node, Nodes, integer, truth, text, list, no_nodes, node, data_of, items_of}

-- the values of a text have no floats, so that their JSON is the compact text
mutual
  no_float : (n : Node) → has_float (data_of n) ≡ false
  no_float (integer at (pos z)) = refl
  no_float (integer at (negsuc z)) = refl
  no_float (truth at b) = refl
  no_float (text at s) = refl
  no_float (list at ns) = no_floats ns

  no_floats : (ns : Nodes) → items_have_float (items_of ns) ≡ false
  no_floats no_nodes = refl
  no_floats (node n ns) = ap (λ b. b || items_have_float (items_of ns)) (no_float n) ∙ no_floats ns

pub compact_of : (n : Node) (d : Data) (s : List ℕ) → d ≡ data_of n
    → (has_float d ≡ false → s ≡ compact_text d) → s ≡ compact_text (data_of n)
compact_of n d s is written = written (ap has_float is ∙ no_float n) ∙ ap compact_text is

-- six pieces, one after another
pub six_pieces : (a b c d e f t0 t1 t2 t3 t4 t5 t6 : List ℕ) → t0 ≡ [] → t1 ≡ t0 ++ a → t2 ≡ t1 ++ b
    → t3 ≡ t2 ++ c → t4 ≡ t3 ++ d → t5 ≡ t4 ++ e → t6 ≡ t5 ++ f → t6 ≡ a ++ (b ++ (c ++ (d ++ (e ++ f))))
six_pieces a b c d e f t0 t1 t2 t3 t4 t5 t6 h0 h1 h2 h3 h4 h5 h6 =
    let k1 : t1 ≡ a = h1 ∙ ap (λ t. t ++ a) h0 in
    let k3 : t3 ≡ (a ++ b) ++ c = h3 ∙ ap (λ t. t ++ c) (h2 ∙ ap (λ t. t ++ b) k1) in
    let k5 : t5 ≡ (((a ++ b) ++ c) ++ d) ++ e = h5 ∙ ap (λ t. t ++ e) (h4 ∙ ap (λ t. t ++ d) k3) in
    h6 ∙ ap (λ t. t ++ f) k5 ∙ simp append_assoc
