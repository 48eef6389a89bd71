-- What a script with its places stands for in the model, and the parts that it has many of.
use Rattle.std.specs.Prelude.{Bool, true, false, codes, option_map}
use Rattle.hp_model.specs.NotationTree as T
use Rattle.hp_model.specs.NotationTokens.{Token, Tokens, token, ending, unreadable}
use Rattle.hp_model.specs.NotationTree.{Node, Phrase}
use Rattle.hp_model.specs.NotationPhrases.{is_word}
use Rattle.hp_model.specs.NotationScripts.{class, rule, is_item, item}
use Rattle.hp_text.specs.declared.node.ScriptNode.{ScriptNode}
use Rattle.hp_text.specs.declared.script.Part.{Part}
use Rattle.hp_text.specs.declared.script.Part.TheVariants as p
use Rattle.hp_text.specs.Mapped.{node_view}

abbrev pub script_view : ScriptNode → T.Script
script_view s = record {
  at = s.at;
  version = node_view s.version;
  depth = option_map node_view s.depth;
  classes = node_view s.classes;
  rules = node_view s.rules;
  items = node_view s.items;
}

-- what such a part begins with
abbrev pub begins_part : Part → Token → Bool
begins_part p.Class = is_word (codes "class")
begins_part (p.Rule lets) = is_word (codes "rule")
begins_part p.Item = is_item

abbrev pub phrase_of : Part → Phrase Node
phrase_of p.Class = class
phrase_of (p.Rule lets) = rule lets
phrase_of p.Item = item

-- nothing is left
abbrev pub ends : Tokens → Bool
ends (token at t ts) = false
ends (ending at) = true
ends (unreadable at) = false
