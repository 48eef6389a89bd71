-- What the forms of aggregates stand for.
use Rattle.serde_json.specs.View.{view}
use Rattle.hp_model.specs.AggregateGrammar as A
use Rattle.hp_query.specs.Mapped.{query}
use Rattle.hp_query.specs.declared.query.Query.{Query}
use Rattle.hp_script.specs.declared.aggregate_form.AggregateForm.{AggregateForm}
use Rattle.hp_script.specs.declared.aggregate_form.AggregateForm.TheVariants.{Count, Sum, Least, Greatest, Next}

abbrev pub aggregate_form_view : AggregateForm → A.AggregateForm
aggregate_form_view (Count q) = A.count_form (view q.name.now) (view q.class.now) (view q.predicate.now)
aggregate_form_view (Sum q term) =
    A.sum_form (view q.name.now) (view q.class.now) (view q.predicate.now) (view term.now)
aggregate_form_view (Least q term) =
    A.least_form (view q.name.now) (view q.class.now) (view q.predicate.now) (view term.now)
aggregate_form_view (Greatest q term) =
    A.greatest_form (view q.name.now) (view q.class.now) (view q.predicate.now) (view term.now)
aggregate_form_view (Next class) = A.next_form (view class.now)

-- the rows of an aggregate, as a query whose name is the variable
abbrev pub over : Query → A.Over
over q = record { variable = (query q).name; class = (query q).class; predicate = (query q).predicate }
