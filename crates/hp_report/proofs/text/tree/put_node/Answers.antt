use Rattle.std.proofs.Common.{rules, ◌≡◌, ◌∙◌, ◌++◌, ◌∷◌, ap, sym, codes, string_bytes}
use Rattle.hp_model.specs.Report.{words, rule_name, coupling_word, ending_words, firing_words, node_words}
use Rattle.hp_report.specs.Mapped as model
use Rattle.hp_report.proofs.Lines.{first_word_put, three_words_put}
use Rattle.hp_report.proofs.text.tree.put_node.Goals as goal

pub returns-in_ok-put_ending-in-Sub : goal.returns-in_ok-put_ending-in-Sub
returns-in_ok-put_ending-in-Sub c =
    let library = model.library_of c.args.names.now in
    let end = model.ending c.args.end.now in
    first_word_put (codes "sub") (ending_words library end) (string_bytes c.args.out.now) (string_bytes c.push_str.new.self) (string_bytes c.put_ending.new.out)
    c.in_ok-push_str-in-Sub.ensures.bytes c.in_ok-put_ending-in-Sub.ensures
    ∙ ap (λ w. string_bytes c.args.out.now ++ words (node_words library (model.what w) end)) (sym c.in-Sub.is)

pub returns-in_ok-put_condition-in-Fire : goal.returns-in_ok-put_condition-in-Fire
returns-in_ok-put_condition-in-Fire c =
    let library = model.library_of c.args.names.now in
    let name = rule_name library c.in-Fire.rule in
    let mode = coupling_word (model.coupling c.in-Fire.place) in
    let first : string_bytes c.write.new.self ≡ string_bytes c.args.out.now ++ (codes "fire" ++ 32 ∷ (name ++ 32 ∷ mode)) = search rules in
    three_words_put (codes "fire") name mode (firing_words library (model.condition c.in-Fire.condition) (model.ending c.args.end.now))
    (string_bytes c.args.out.now) (string_bytes c.write.new.self) (string_bytes c.put_condition.new.out) first c.in_ok-put_condition-in-Fire.ensures
    ∙ ap (λ w. string_bytes c.args.out.now ++ words (node_words library (model.what w) (model.ending c.args.end.now))) (sym c.in-Fire.is)

pub returns-in_ok-put_ending-in-Act : goal.returns-in_ok-put_ending-in-Act
returns-in_ok-put_ending-in-Act c =
    let library = model.library_of c.args.names.now in
    let name = rule_name library c.in-Act.rule in
    let mode = coupling_word (model.coupling c.in-Act.place) in
    let end = model.ending c.args.end.now in
    let first : string_bytes c.write-in-Act.new.self ≡ string_bytes c.args.out.now ++ (codes "act" ++ 32 ∷ (name ++ 32 ∷ mode)) = search rules in
    three_words_put (codes "act") name mode (ending_words library end) (string_bytes c.args.out.now) (string_bytes c.write-in-Act.new.self)
    (string_bytes c.put_ending-in-Act.new.out) first c.in_ok-put_ending-in-Act.ensures
    ∙ ap (λ w. string_bytes c.args.out.now ++ words (node_words library (model.what w) end)) (sym c.in-Act.is)
