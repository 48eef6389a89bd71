use Rattle.std.proofs.Common.{ap, subst, refl, true, map, string_bytes, ◌≡◌, ◌∙◌}
use Rattle.std.proofs.lemmas.Result.{IfOk-weaker}
use Rattle.clap.specs.Words.{App, FailsBy, fault_of, is_simple, is_simple_and_free, matches_of}
use Rattle.clap.proofs.OnLiterals.{clap_on_literals}
use Rattle.hp_words.specs.CheckWords.{check_app, check_rows, check_faults}
use Rattle.hp_words.proofs.check.check_matches_of.Goals as goal

app_simple : is_simple check_app ≡ true
unfolding clap_on_literals
app_simple = refl

app_free : is_simple_and_free check_app ≡ true
unfolding clap_on_literals
app_free = refl

pub returns : goal.returns
unfolding check_rows check_faults
returns c =
    let app_is = c.in_ok-command.ensures in
    let parse = c.try_get_matches_from in
    record {
      rows = IfOk-weaker parse.result _ _ (λ m h. (h (ap is_simple app_is ∙ app_simple)).0 ∙ ap (λ (a : App). matches_of a (map string_bytes c.args.words.now)) app_is) parse.ensures.matches;
      kinds = subst (λ (a : App). FailsBy (fault_of a (map string_bytes c.args.words.now)) parse.result) app_is (parse.ensures.kinds (ap is_simple_and_free app_is ∙ app_free));
    }
