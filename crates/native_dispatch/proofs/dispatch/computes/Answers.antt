use Rattle.std.proofs.Common.{sym, subst, ◌∙◌}
use Rattle.mql_meaning.specs.Changes.{Out}
use Rattle.mql_meaning.specs.Natives.{NativeDone}
use Rattle.native_arguments.specs.Done.{Comes}
use Rattle.native_dispatch.proofs.Chaptered.{strings_are, texts_are, arrays_are, numbers_are, times_are, elsewhere_is}
use Rattle.native_dispatch.proofs.dispatch.computes.Goals as goal

pub returns-in-Strings : goal.returns-in-Strings
returns-in-Strings c =
    subst (λ (o : Out NativeDone). Comes o c.in_strings.result c.args.store.now)
    (sym (strings_are c.args.native _ c.args.store.now (sym c.chapter_of.ensures ∙ c.in-Strings.is)))
    c.in_strings.ensures

pub returns-in-Texts : goal.returns-in-Texts
returns-in-Texts c =
    subst (λ (o : Out NativeDone). Comes o c.in_texts.result c.args.store.now)
    (sym (texts_are c.args.native _ c.args.store.now (sym c.chapter_of.ensures ∙ c.in-Texts.is)))
    c.in_texts.ensures

pub returns-in-Arrays : goal.returns-in-Arrays
returns-in-Arrays c =
    subst (λ (o : Out NativeDone). Comes o c.in_arrays.result c.args.store.now)
    (sym (arrays_are c.args.native _ c.args.store.now (sym c.chapter_of.ensures ∙ c.in-Arrays.is)))
    c.in_arrays.ensures

pub returns-in-Numbers : goal.returns-in-Numbers
returns-in-Numbers c =
    subst (λ (o : Out NativeDone). Comes o c.in_numbers.result c.args.store.now)
    (sym (numbers_are c.args.native _ c.args.store.now (sym c.chapter_of.ensures ∙ c.in-Numbers.is)))
    c.in_numbers.ensures

pub returns-in-Times : goal.returns-in-Times
returns-in-Times c =
    subst (λ (o : Out NativeDone). Comes o c.in_times.result c.args.store.now)
    (sym (times_are c.args.native _ c.args.store.now (sym c.chapter_of.ensures ∙ c.in-Times.is)))
    c.in_times.ensures

pub returns-in-Elsewhere : goal.returns-in-Elsewhere
returns-in-Elsewhere c =
    elsewhere_is c.args.native _ c.args.store.now (sym c.chapter_of.ensures ∙ c.in-Elsewhere.is)
