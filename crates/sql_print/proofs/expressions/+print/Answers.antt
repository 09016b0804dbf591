use Rattle.std.proofs.Common.{◌≡◌, ◌∙◌, List, Option, Some, None, [], ◌∷◌, ◌++◌, map, sym, ap, ap₂, to_z, of_z, w64, to_z-of_z, rules, drop, true, ◌+◌}
use Rattle.std.specs.Prelude.{codes, if◌then◌else◌}
use Rattle.sql_tree.specs.declared.expr.SqlExpr.TheVariants as tree
use Rattle.sql_tree.specs.declared.expr.SqlExpr.{SqlExpr}
use Rattle.sql_tree.specs.declared.expr.SqlArm.{SqlArm}
use Rattle.sql_tree.specs.declared.lexeme.LexemeKind.TheVariants as k
use Rattle.sql_tree.specs.Print.{token, word, not_if, if_some, in_parens, operand, separated, all_of, expr_print, arm_print, operator, type_word, literal}
use Rattle.std.proofs.lemmas.List.{drop_more, drop_all}
use Rattle.sql_print.specs.Writing.{Written, put, puts}
use Rattle.sql_print.proofs.PutLemmas.{ends, left, right, only_if, flat_not, flat_binary, flat_is_null, flat_in_list, flat_between, flat_call, flat_cast, flat_case_none, flat_case_some, flat_neg, commas, commas_more, all_of_more, no_commas, separated_is}
use Rattle.sql_print.proofs.Prints.{print-Number, print-Str, print-Bool, print-Null, print-Name, print-Neg, print-Not, print-Binary, print-IsNull, print-InList, print-Between, print-Cast, print-Coalesce, print-CountAll, print-Count, print-Sum, print-Min, print-Max, print-Case_none, print-Case_some, print-arm}
use Rattle.sql_print.proofs.expressions.+print.Goals as goal

case_is : (w : Written) (arms : List SqlArm) (other : Option SqlExpr) → puts w (expr_print (tree.Case arms other)) ≡ put (puts (puts (put w (token k.Case)) (all_of (map arm_print arms))) (if_some (λ x. token k.Else ∷ expr_print x) other)) (token k.EndWord)
case_is w arms None = ap (puts w) (print-Case_none arms) ∙ flat_case_none w (all_of (map arm_print arms))
case_is w arms (Some x) = ap (puts w) (print-Case_some arms x) ∙ flat_case_some w (all_of (map arm_print arms)) (expr_print x)

pub expr-returns-in-Number : goal.expr-returns-in-Number
expr-returns-in-Number t c =
    let same : to_z w64 (of_z w64 c.in-Number.number) ≡ c.in-Number.number = to_z-of_z {w = w64} (search rules) in
    ends _ _ _ _ c.literal.ensures (ap (λ n. puts c.args.out.now (literal n)) same ∙ ap (puts c.args.out.now) (sym (ap expr_print c.in-Number.is ∙ print-Number c.in-Number.number)))

pub expr-returns-in-Str : goal.expr-returns-in-Str
expr-returns-in-Str t c = ends _ _ _ _ c.string.ensures (ap (puts c.args.out.now) (sym (ap expr_print c.in-Str.is ∙ (print-Str c.in-Str.text))))

pub expr-returns-in-Bool : goal.expr-returns-in-Bool
expr-returns-in-Bool t c = ends _ _ _ _ c.truth.ensures (ap (puts c.args.out.now) (sym (ap expr_print c.in-Bool.is ∙ (print-Bool c.in-Bool.is_true))))

pub expr-returns-in-Null : goal.expr-returns-in-Null
expr-returns-in-Null t c = ends _ _ _ _ c.token.ensures (ap (puts c.args.out.now) (sym (ap expr_print c.in-Null.is ∙ print-Null)))

pub expr-returns-in-Name : goal.expr-returns-in-Name
expr-returns-in-Name t c = ends _ _ _ _ c.name.ensures (ap (puts c.args.out.now) (sym (ap expr_print c.in-Name.is ∙ (print-Name c.in-Name.name))))

pub expr-returns-in-Neg : goal.expr-returns-in-Neg
expr-returns-in-Neg t c = ends _ _ _ _ c.negative.ensures (ap (λ x. puts c.args.out.now (in_parens (token k.Minus ∷ operand (expr_print x)))) c.get.ensures ∙
    sym (ap (puts c.args.out.now) (ap expr_print c.in-Neg.is ∙ print-Neg c.in-Neg.x)))

pub expr-returns-in-Not : goal.expr-returns-in-Not
expr-returns-in-Not t c = ends _ _ _ _ c.inverted.ensures (ap (λ x. puts c.args.out.now (in_parens (token k.Not ∷ expr_print x))) c.get-in-Not.ensures ∙
    sym (ap (puts c.args.out.now) (ap expr_print c.in-Not.is ∙ print-Not c.in-Not.x)))

pub expr-returns-in-IsNull : goal.expr-returns-in-IsNull
expr-returns-in-IsNull t c = ends _ _ _ _ c.null_test.ensures (ap (λ x. puts c.args.out.now (in_parens (expr_print x ++ token k.Is ∷ not_if c.in-IsNull.negated ++ token k.Null ∷ []))) c.get-in-IsNull.ensures ∙
    sym (ap (puts c.args.out.now) (ap expr_print c.in-IsNull.is ∙ print-IsNull c.in-IsNull.x c.in-IsNull.negated)))

pub expr-returns-in-Cast : goal.expr-returns-in-Cast
expr-returns-in-Cast t c = ends _ _ _ _ c.cast_of.ensures (ap (λ x. puts c.args.out.now (token (if c.in-Cast.trying then k.TryCast else k.Cast) ∷ in_parens (expr_print x ++ token k.As ∷ type_word c.in-Cast.kind ∷ []))) c.get-in-Cast.ensures ∙
    sym (ap (puts c.args.out.now) (ap expr_print c.in-Cast.is ∙ print-Cast c.in-Cast.x c.in-Cast.kind c.in-Cast.trying)))

pub expr-returns-in-Coalesce : goal.expr-returns-in-Coalesce
expr-returns-in-Coalesce t c = ends _ _ _ _ c.coalesce.ensures (ap (λ x. puts c.args.out.now (word (codes "coalesce") ∷ in_parens (separated (map expr_print x)))) c.as_slice-in-Coalesce.ensures ∙
    sym (ap (puts c.args.out.now) (ap expr_print c.in-Coalesce.is ∙ print-Coalesce c.in-Coalesce.list)))

pub expr-returns-in-CountAll : goal.expr-returns-in-CountAll
expr-returns-in-CountAll t c = ends _ _ _ _ c.count_all.ensures (sym (ap (puts c.args.out.now) (ap expr_print c.in-CountAll.is ∙ print-CountAll)))

pub expr-returns-in-Count : goal.expr-returns-in-Count
expr-returns-in-Count t c = ends _ _ _ _ c.call.ensures (ap (λ x. puts c.args.out.now (word (codes "count") ∷ in_parens (expr_print x))) c.get-in-Count.ensures ∙
    sym (ap (puts c.args.out.now) (ap expr_print c.in-Count.is ∙ print-Count c.in-Count.x)))

pub expr-returns-in-Sum : goal.expr-returns-in-Sum
expr-returns-in-Sum t c = ends _ _ _ _ c.call-in-Sum.ensures (ap (λ x. puts c.args.out.now (word (codes "sum") ∷ in_parens (expr_print x))) c.get-in-Sum.ensures ∙
    sym (ap (puts c.args.out.now) (ap expr_print c.in-Sum.is ∙ print-Sum c.in-Sum.x)))

pub expr-returns-in-Min : goal.expr-returns-in-Min
expr-returns-in-Min t c = ends _ _ _ _ c.call-in-Min.ensures (ap (λ x. puts c.args.out.now (word (codes "min") ∷ in_parens (expr_print x))) c.get-in-Min.ensures ∙
    sym (ap (puts c.args.out.now) (ap expr_print c.in-Min.is ∙ print-Min c.in-Min.x)))

pub expr-returns-in-Max : goal.expr-returns-in-Max
expr-returns-in-Max t c = ends _ _ _ _ c.call-in-Max.ensures (ap (λ x. puts c.args.out.now (word (codes "max") ∷ in_parens (expr_print x))) c.get-in-Max.ensures ∙
    sym (ap (puts c.args.out.now) (ap expr_print c.in-Max.is ∙ print-Max c.in-Max.x)))

pub expr-returns-in_ok-opened-in-Binary : goal.expr-returns-in_ok-opened-in-Binary
expr-returns-in_ok-opened-in-Binary t c = ends _ _ _ _ c.infix.ensures (ap₂ (λ w x. put (puts (put w (token (operator c.in-Binary.op))) (expr_print x)) right) (c.in_ok-opened-in-Binary.ensures ∙ ap (λ x. puts (put c.args.out.now left) (expr_print x)) c.get-in-Binary.ensures) c.get-in-Binary-2.ensures ∙
    sym (ap (puts c.args.out.now) (ap expr_print c.in-Binary.is ∙ print-Binary c.in-Binary.op c.in-Binary.left c.in-Binary.right) ∙ flat_binary c.args.out.now (token (operator c.in-Binary.op)) (expr_print c.in-Binary.left) (expr_print c.in-Binary.right)))

pub expr-returns-in_ok-opened-in-InList : goal.expr-returns-in_ok-opened-in-InList
expr-returns-in_ok-opened-in-InList t c = ends _ _ _ _ c.listed.ensures (ap₂ (λ w xs. put (puts (puts w (not_if c.in-InList.negated)) (token k.In ∷ in_parens (separated (map expr_print xs)))) right) (c.in_ok-opened-in-InList.ensures ∙ ap (λ x. puts (put c.args.out.now left) (expr_print x)) c.get-in-InList.ensures) c.as_slice.ensures ∙
    ap (λ w. put w right) (flat_call (puts (puts (put c.args.out.now left) (expr_print c.in-InList.x)) (not_if c.in-InList.negated)) (token k.In) (separated (map expr_print c.in-InList.list))) ∙
    sym (ap (puts c.args.out.now) (ap expr_print c.in-InList.is ∙ print-InList c.in-InList.x c.in-InList.list c.in-InList.negated) ∙ flat_in_list c.args.out.now (expr_print c.in-InList.x) (not_if c.in-InList.negated) (separated (map expr_print c.in-InList.list))))

pub expr-returns-in_ok-between-in-Between : goal.expr-returns-in_ok-between-in-Between
expr-returns-in_ok-between-in-Between t c = ends _ _ _ _ c.closed.ensures (ap₂ (λ w x. put (puts w (expr_print x)) right) (c.in_ok-between-in-Between.ensures ∙ ap₂ (λ w x. put (puts (put (puts w (not_if c.in-Between.negated)) (token k.Between)) (expr_print x)) (token k.And)) (c.in_ok-opened-in-Between.ensures ∙ ap (λ x. puts (put c.args.out.now left) (expr_print x)) c.get-in-Between.ensures) c.get-in-Between-2.ensures) c.get-in-Between-3.ensures ∙
    sym (ap (puts c.args.out.now) (ap expr_print c.in-Between.is ∙ print-Between c.in-Between.x c.in-Between.low c.in-Between.high c.in-Between.negated) ∙ flat_between c.args.out.now (expr_print c.in-Between.x) (not_if c.in-Between.negated) (expr_print c.in-Between.low) (expr_print c.in-Between.high)))

pub expr-returns-in_ok-case_arms-in-Case : goal.expr-returns-in_ok-case_arms-in-Case
expr-returns-in_ok-case_arms-in-Case t c = ends _ _ _ _ c.case_end.ensures (ap (λ w. put (puts w (if_some (λ x. token k.Else ∷ expr_print x) c.in-Case.other)) (token k.EndWord)) (c.in_ok-case_arms-in-Case.ensures ∙ ap (λ xs. puts (put c.args.out.now (token k.Case)) (all_of (map arm_print xs))) c.as_slice-in-Case.ensures) ∙
    sym (ap (λ x. puts c.args.out.now (expr_print x)) c.in-Case.is ∙ case_is c.args.out.now c.in-Case.arms c.in-Case.other))

pub opened-returns : goal.opened-returns
opened-returns t c = ends _ _ _ _ c.expr.ensures (ap (λ w. puts w (expr_print c.args.x.now)) c.in_ok-token.ensures)

pub closed-returns : goal.closed-returns
closed-returns t c = ends _ _ _ _ c.token.ensures (ap (λ w. put w right) c.in_ok-expr.ensures)

pub negative-returns : goal.negative-returns
negative-returns t c = ends _ _ _ _ c.token-3.ensures (ap (λ w. put w right) (c.in_ok-token_if-2.ensures ∙ ap₂ (λ w b. puts w (only_if b right)) (c.in_ok-expr.ensures ∙ ap (λ w. puts w (expr_print c.args.x.now)) (c.in_ok-token_if.ensures ∙ ap₂ (λ w b. puts w (only_if b left)) (c.in_ok-token-2.ensures ∙ ap (λ w. put w (token k.Minus)) c.in_ok-token.ensures) c.is_plain_number-is_plain.ensures)) c.is_plain_number-is_plain.ensures) ∙
    sym (flat_neg c.args.out.now (expr_print c.args.x.now)))

pub inverted-returns : goal.inverted-returns
inverted-returns t c = ends _ _ _ _ c.closed.ensures (ap (λ w. put (puts w (expr_print c.args.x.now)) right) (c.in_ok-token-2.ensures ∙ ap (λ w. put w (token k.Not)) c.in_ok-token.ensures) ∙ sym (flat_not c.args.out.now (expr_print c.args.x.now)))

pub infix-returns : goal.infix-returns
infix-returns t c = ends _ _ _ _ c.closed.ensures (ap (λ w. put (puts w (expr_print c.args.right.now)) right) (c.in_ok-token.ensures ∙ ap (λ t. put c.args.out.now (token t)) c.operator.ensures.value))

pub null_test-returns : goal.null_test-returns
null_test-returns t c = ends _ _ _ _ c.token-3.ensures (ap (λ w. put w right) (c.in_ok-token-2.ensures ∙ ap (λ w. put w (token k.Null)) (c.in_ok-token_if.ensures ∙ ap (λ w. puts w (not_if c.args.negated)) (c.in_ok-token.ensures ∙ ap (λ w. put w (token k.Is)) c.in_ok-opened.ensures))) ∙
    sym (flat_is_null c.args.out.now (expr_print c.args.x.now) (not_if c.args.negated)))

pub listed-returns : goal.listed-returns
listed-returns t c = ends _ _ _ _ c.token-4.ensures (ap (λ w. put w right) (c.in_ok-token-3.ensures ∙ ap (λ w. put w right) (c.in_ok-exprs.ensures ∙ ap (λ w. puts w (separated (map expr_print c.args.list.now))) (c.in_ok-token-2.ensures ∙ ap (λ w. put w left) (c.in_ok-token.ensures ∙ ap (λ w. put w (token k.In)) c.in_ok-token_if.ensures))) ∙
    sym (flat_call (puts c.args.out.now (not_if c.args.negated)) (token k.In) (separated (map expr_print c.args.list.now)))))

pub between-returns : goal.between-returns
between-returns t c = ends _ _ _ _ c.token-2.ensures (ap (λ w. put w (token k.And)) (c.in_ok-expr.ensures ∙ ap (λ w. puts w (expr_print c.args.low.now)) (c.in_ok-token.ensures ∙ ap (λ w. put w (token k.Between)) c.in_ok-token_if.ensures)))

pub cast_of-returns : goal.cast_of-returns
cast_of-returns t c = ends _ _ _ _ c.token-2.ensures (ap (λ w. put w right) (c.in_ok-type_word.ensures ∙ ap (λ w. put w (type_word c.args.kind)) (c.in_ok-token.ensures ∙ ap (λ w. put w (token k.As)) (c.in_ok-opened.ensures ∙ ap (λ w. puts (put w left) (expr_print c.args.x.now)) c.in_ok-cast.ensures))) ∙
    sym (flat_cast c.args.out.now (token (if c.args.trying then k.TryCast else k.Cast)) (type_word c.args.kind) (expr_print c.args.x.now)))

pub coalesce-returns : goal.coalesce-returns
coalesce-returns t c = ends _ _ _ _ c.token.ensures (ap (λ w. put w right) (c.in_ok-exprs.ensures ∙ ap (λ w. puts w (separated (map expr_print c.args.list.now))) c.in_ok-open_call.ensures) ∙ sym (flat_call c.args.out.now (word (codes "coalesce")) (separated (map expr_print c.args.list.now))))

pub call-returns : goal.call-returns
call-returns t c = ends _ _ _ _ c.closed.ensures (ap (λ w. put (puts w (expr_print c.args.x.now)) right) c.in_ok-open_call.ensures ∙ sym (flat_call c.args.out.now (word c.args.function.now) (expr_print c.args.x.now)))

pub exprs-loop-tree-preserved : goal.exprs-loop-tree-preserved
exprs-loop-tree-preserved t c =
    let s = c.loop-tree in
    let list = c.args.list.now in
    let rest = map expr_print (drop (s.tree-index + 1) list) in
    let item : drop s.tree-index list ≡ c.tree-item.result ∷ drop (s.tree-index + 1) list =
    (drop_more list s.tree-index c.tree-item.result c.loop-tree-test.true ∙ ap (λ x. x ∷ drop (s.tree-index + 1) list) (sym c.tree-item.is)) in
    ap (λ w. puts w (commas true rest)) (c.in_ok-expr.ensures ∙ ap (λ w. puts w (expr_print c.tree-item.result)) c.in_ok-token_if.ensures) ∙
    sym (commas_more s.out s.goes_on (expr_print c.tree-item.result) rest) ∙ ap (λ ls. puts s.out (commas s.goes_on (map expr_print ls))) (sym item) ∙ s.invariant

pub case_arms-loop-arm-preserved : goal.case_arms-loop-arm-preserved
case_arms-loop-arm-preserved t c =
    let s = c.loop-arm in
    let list = c.args.arms.now in
    let rest = map arm_print (drop (s.arm-index + 1) list) in
    let item : drop s.arm-index list ≡ c.arm-item.result ∷ drop (s.arm-index + 1) list =
    (drop_more list s.arm-index c.arm-item.result c.loop-arm-test.true ∙ ap (λ x. x ∷ drop (s.arm-index + 1) list) (sym c.arm-item.is)) in
    ap (λ w. puts w (all_of rest)) (c.in_ok-expr-2.ensures ∙ ap (λ w. puts w (expr_print c.arm-item.result.then)) (c.in_ok-token-3.ensures ∙ ap (λ w. put w (token k.Then)) (c.in_ok-expr.ensures ∙ ap (λ w. puts w (expr_print c.arm-item.result.when)) c.in_ok-token-2.ensures))) ∙
    sym (all_of_more s.out (expr_print c.arm-item.result.when) (expr_print c.arm-item.result.then) rest) ∙ ap (λ a. puts s.out (all_of (a ∷ rest))) (sym (print-arm c.arm-item.result)) ∙
    ap (λ ls. puts s.out (all_of (map arm_print ls))) (sym item) ∙ s.invariant

pub exprs-returns : goal.exprs-returns
exprs-returns t c =
    let s = c.loop-tree in
    let none : drop s.tree-index c.args.list.now ≡ [] = drop_all s.tree-index c.args.list.now c.loop-tree-test.false in
    ap (puts s.out) (sym (no_commas s.goes_on)) ∙ ap (λ ls. puts s.out (commas s.goes_on (map expr_print ls))) (sym none) ∙ s.invariant ∙ ap (puts c.args.out.now) (sym (separated_is (map expr_print c.args.list.now)))
