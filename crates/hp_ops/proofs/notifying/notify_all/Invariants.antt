use Rattle.std.proofs.Common.{◌≡◌, filter, map}
use Rattle.hp_model.proofs.FaithfulFirings.{AreAt}
use Rattle.std.specs.Prelude.{option_map}
use Rattle.hp_store.specs.Changes.{changes}
use Rattle.hp_value.specs.Mapped.{occurrence as occurrence_of, primitive}
use Rattle.hp_rule.specs.Mapped.{library, task as task_of}
use Rattle.hp_rule.specs.Mentions.{mentioning, is_mentioned}
use Rattle.hp_view.specs.Adding.{AddsReads}
use Rattle.hp_view.specs.Seeing.{OnlyReads, GoesOn}
use Rattle.hp_ops.specs.Notified.{Shares}
use Rattle.hp_ops.specs.Reading.{IsReadOfMentioned}
use Rattle.hp_ops.specs.Stepped.{entries}
use Rattle.hp_ops.proofs.Notices.{HaveHeard, mentioned_among}
use Rattle.hp_ops.proofs.notifying.notify_all.Given as goal

-- the mentioned rules so far have been notified, these are their tasks, and the steps of their detectors aren't written
abbrev pub invariant-loop-number : goal.invariant-loop-number
invariant-loop-number l =
    record {
      all : filter (is_mentioned (library l.lib).rules (primitive l.prim)) l.number-items ≡ mentioning (library l.lib) (primitive l.prim);
      heard : HaveHeard (library l.lib) l.time (primitive l.prim) (mentioned_among (library l.lib) (primitive l.prim) l.number-items l.number-index)
          l.fn.view l.view (changes (entries l.steps)) (map task_of l.tasks.items);
      shared : Shares (primitive l.prim) (option_map (λ o. occurrence_of o.value) l.shared);
      depth : AreAt l.depth (map task_of l.tasks.items);
      reads : AddsReads (IsReadOfMentioned (library l.lib) (primitive l.prim)) l.fn.view.reads l.view.reads;
      only : OnlyReads l.fn.view l.view;
      goes_on : GoesOn l.fn.view l.view;
    }
