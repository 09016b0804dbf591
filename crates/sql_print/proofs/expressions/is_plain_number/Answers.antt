use Rattle.std.proofs.Common.{◌≡◌, ◌∙◌, sym, ap, rules, to_z, of_z, w64, to_z-of_z, pos}
use lib.Signed.{le_z}
use Rattle.sql_tree.specs.declared.lexeme.LexemeKind.TheVariants as k
use Rattle.sql_tree.specs.Lexemes.{kind, same_kind}
use Rattle.sql_tree.specs.Print.{expr_print}
use Rattle.sql_print.proofs.Prints.{plain-literal, plain-truth, plain-name, plain-cast, print-Number, print-Str, print-Bool, print-Null, print-Name, print-Neg, print-Not, print-Binary, print-IsNull, print-InList, print-Between, print-Cast, print-Coalesce, print-CountAll, print-Count, print-Sum, print-Min, print-Max, plain-case}
use Rattle.sql_print.proofs.expressions.is_plain_number.Goals as goal

pub returns-in-Number : goal.returns-in-Number
returns-in-Number c =
    let same : to_z w64 (of_z w64 c.in-Number.number) ≡ c.in-Number.number = to_z-of_z {w = w64} (search rules) in
    ap (le_z (pos 0)) same ∙ plain-literal c.in-Number.number ∙ sym (ap (λ ts. same_kind (kind ts) k.Number) (ap expr_print c.in-Number.is ∙ print-Number c.in-Number.number))

pub returns-in-Str : goal.returns-in-Str
unfolding same_kind
returns-in-Str c = sym (ap (λ ts. same_kind (kind ts) k.Number) (ap expr_print c.in-Str.is ∙ print-Str _))

pub returns-in-Bool : goal.returns-in-Bool
unfolding same_kind
returns-in-Bool c = plain-truth _ ∙ sym (ap (λ ts. same_kind (kind ts) k.Number) (ap expr_print c.in-Bool.is ∙ print-Bool _))

pub returns-in-Null : goal.returns-in-Null
unfolding same_kind
returns-in-Null c = sym (ap (λ ts. same_kind (kind ts) k.Number) (ap expr_print c.in-Null.is ∙ print-Null))

pub returns-in-Name : goal.returns-in-Name
unfolding same_kind
returns-in-Name c = plain-name _ ∙ sym (ap (λ ts. same_kind (kind ts) k.Number) (ap expr_print c.in-Name.is ∙ print-Name _))

pub returns-in-Neg : goal.returns-in-Neg
unfolding same_kind
returns-in-Neg c = sym (ap (λ ts. same_kind (kind ts) k.Number) (ap expr_print c.in-Neg.is ∙ print-Neg _))

pub returns-in-Not : goal.returns-in-Not
unfolding same_kind
returns-in-Not c = sym (ap (λ ts. same_kind (kind ts) k.Number) (ap expr_print c.in-Not.is ∙ print-Not _))

pub returns-in-Binary : goal.returns-in-Binary
unfolding same_kind
returns-in-Binary c = sym (ap (λ ts. same_kind (kind ts) k.Number) (ap expr_print c.in-Binary.is ∙ print-Binary _ _ _))

pub returns-in-IsNull : goal.returns-in-IsNull
unfolding same_kind
returns-in-IsNull c = sym (ap (λ ts. same_kind (kind ts) k.Number) (ap expr_print c.in-IsNull.is ∙ print-IsNull _ _))

pub returns-in-InList : goal.returns-in-InList
unfolding same_kind
returns-in-InList c = sym (ap (λ ts. same_kind (kind ts) k.Number) (ap expr_print c.in-InList.is ∙ print-InList _ _ _))

pub returns-in-Between : goal.returns-in-Between
unfolding same_kind
returns-in-Between c = sym (ap (λ ts. same_kind (kind ts) k.Number) (ap expr_print c.in-Between.is ∙ print-Between _ _ _ _))

pub returns-in-Cast : goal.returns-in-Cast
unfolding same_kind
returns-in-Cast c = plain-cast _ ∙ sym (ap (λ ts. same_kind (kind ts) k.Number) (ap expr_print c.in-Cast.is ∙ print-Cast _ _ _))

pub returns-in-Coalesce : goal.returns-in-Coalesce
unfolding same_kind
returns-in-Coalesce c = sym (ap (λ ts. same_kind (kind ts) k.Number) (ap expr_print c.in-Coalesce.is ∙ print-Coalesce _))

pub returns-in-CountAll : goal.returns-in-CountAll
unfolding same_kind
returns-in-CountAll c = sym (ap (λ ts. same_kind (kind ts) k.Number) (ap expr_print c.in-CountAll.is ∙ print-CountAll))

pub returns-in-Count : goal.returns-in-Count
unfolding same_kind
returns-in-Count c = sym (ap (λ ts. same_kind (kind ts) k.Number) (ap expr_print c.in-Count.is ∙ print-Count _))

pub returns-in-Sum : goal.returns-in-Sum
unfolding same_kind
returns-in-Sum c = sym (ap (λ ts. same_kind (kind ts) k.Number) (ap expr_print c.in-Sum.is ∙ print-Sum _))

pub returns-in-Min : goal.returns-in-Min
unfolding same_kind
returns-in-Min c = sym (ap (λ ts. same_kind (kind ts) k.Number) (ap expr_print c.in-Min.is ∙ print-Min _))

pub returns-in-Max : goal.returns-in-Max
unfolding same_kind
returns-in-Max c = sym (ap (λ ts. same_kind (kind ts) k.Number) (ap expr_print c.in-Max.is ∙ print-Max _))

pub returns-in-Case : goal.returns-in-Case
returns-in-Case c = plain-case _ _ ∙ sym (ap (λ x. same_kind (kind (expr_print x)) k.Number) c.in-Case.is)
