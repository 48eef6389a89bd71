use Rattle.std.proofs.Common.{rules, ◌≡◌, ◌++◌, [], ap, ap₂, ◌∙◌, string_bytes}
use Rattle.hp_analysis.specs.Declarations.{declared}
use Rattle.hp_analysis.specs.Depths.{script_depth}
use Rattle.hp_analysis.specs.Findings.{finds_nothing}
use Rattle.hp_analysis.specs.FoundKinds as found_kinds
use Rattle.hp_analysis.specs.KindFindings as F
use Rattle.hp_analysis.specs.Installed.{installed, with_installed}
use Rattle.hp_analysis.specs.Tables.{script}
use Rattle.hp_analysis.specs.Checking.{verdicts_of, kind_lines, chain_text, opening_lines, idle_lines}
use Rattle.hipac_check.specs.Scripts.{script_of}
use Rattle.hipac_check.specs.Spots.{shown}
use Rattle.hipac_check.proofs.Checked.{whole_text}
use Rattle.hipac_check.proofs.checking.findings.Goals as goal

pub returns : goal.returns
returns c =
    let S = script_of c.args.checked.now in
    let L = S.library in
    let us = S.units in
    let at = shown c.args.checked.now.spots in
    let found = F.kind_findings L (declared c.args.declaration.now) us in
    let found_is : found_kinds.kind_findings c.in_ok-all.all.items ≡ found = c.in_ok-all.ensures.found in
    let own_is : c.in_ok-own.own ≡ script_depth (with_installed S) = c.in_ok-own.ensures ∙ ap (λ l. script_depth (script l us)) c.requires.graph in
    let pass : c.is_kinded.result ≡ finds_nothing (found_kinds.kind_findings c.in_ok-all.all.items) = search rules in
    let pass_is : c.is_kinded.result ≡ finds_nothing found = pass ∙ ap finds_nothing found_is in
    let start : string_bytes c.new-text.result ≡ [] = search rules in
    let v = c.in_ok-put_verdicts.ensures ∙ ap₂ (λ p o. string_bytes c.new-text.result ++ verdicts_of L p o) pass_is own_is in
    let put : string_bytes c.put_kind_lines.new.out ≡ string_bytes c.put_verdicts.new.text ++ kind_lines at (found_kinds.kind_findings c.in_ok-all.all.items) = search rules in
    let k = put ∙ ap (λ f. string_bytes c.put_verdicts.new.text ++ kind_lines at f) found_is in
    let chain_put : string_bytes c.put_chain_by.new.text ≡ string_bytes c.put_kind_lines.new.out ++ chain_text at S c.in_ok-own.own = search rules in
    let h = chain_put ∙ ap (λ k. string_bytes c.put_kind_lines.new.out ++ chain_text at S k) own_is in
    let o : string_bytes c.put_openings.new.out ≡ string_bytes c.put_chain_by.new.text ++ opening_lines at 0 L.rules = search rules in
    let idle_put : string_bytes c.put_idles.new.out ≡ string_bytes c.put_openings.new.out ++ idle_lines at c.args.graph.now.triggers.present.items c.args.reached.now 0 L.rules =
    search rules in
    let i = idle_put ∙ ap (λ a. string_bytes c.put_openings.new.out ++ idle_lines at a c.args.reached.now 0 L.rules) c.requires.present in
    whole_text (verdicts_of L (finds_nothing found) (script_depth (with_installed S))) (kind_lines at found) (chain_text at S (script_depth (with_installed S))) (opening_lines at 0 L.rules)
    (idle_lines at (installed L us) c.args.reached.now 0 L.rules) (string_bytes c.new-text.result) (string_bytes c.put_verdicts.new.text)
    (string_bytes c.put_kind_lines.new.out) (string_bytes c.put_chain_by.new.text)
    (string_bytes c.put_openings.new.out) (string_bytes c.put_idles.new.out) start v k h o i
