use Rattle.std.proofs.Common.{◌≡◌, ◌+◌, ◌<◌, ◌++◌, ◌∷◌, [], get_or, length, sym, ap, ◌∙◌, subst, arith}
use Rattle.std.specs.Str.{IsCharBoundary, IsUtf8}
use Rattle.std.proofs.lemmas.Str.{IsCharBoundary-start, IsCharBoundary-after_ascii}
use Rattle.std.proofs.lemmas.List.{map-append, append-nil}
use Rattle.listing.specs.Calls.{texts}
use Rattle.scoresheet.specs.Lists.{gap, parted}
use Rattle.scoresheet.proofs.Words.{NoGap, left, word_at, none_at, word_end, none_end, whole, pushed, no_gap_more, gap_low}
use Rattle.scoresheet.proofs.lines.split_line.Goals.{then-is_gap, then-from-at+in_ok-push, else-from-at, else-is_gap, then-from-text+in_ok-push-2, else-from-text}
use Rattle.scoresheet.proofs.lines.split_line.Goals as goal

pub loop-at-init : goal.loop-at-init
loop-at-init c = record {
  before = omega arith;
  start = IsCharBoundary-start c.without_comment-text.result.now (subst IsUtf8 c.as_bytes-bytes.ensures.value c.as_bytes-bytes.ensures.utf8);
  none = λ k l m. absurd (omega arith);
  words = ap (λ ws. texts ws ++ left c.without_comment-text.result.now 0) c.new-words.ensures.items;
}

pub loop-at-preserved : goal.loop-at-preserved
loop-at-preserved c =
    let l = c.loop-at in
    let t = c.without_comment-text.result.now in
    let same = c.as_bytes-bytes.ensures.value in
    let m : l.at < length t = omega (arith, ap length same, c.loop-at-test.true) in
    let tested = ap (λ bs. gap (get_or bs l.at 0)) (sym same) ∙ sym c.is_gap.ensures.answer in
    elim c.if-is_gap.branch [
      | then-is_gap w ↦
          let here = tested ∙ w.if-is_gap.true in
          record {
            before = omega (arith, w.from-is);
            start = subst (IsCharBoundary t) (sym w.from-is) (IsCharBoundary-after_ascii t l.at (subst IsUtf8 same c.as_bytes-bytes.ensures.utf8) m (gap_low (get_or t l.at 0) here));
            none = λ k n p. absurd (omega (arith, w.from-is));
            words = ap (λ ws. texts ws.items ++ left t c.if-is_gap.from) w.words-is ∙ ap (λ n. texts w.if-from-at.words.items ++ left t n) w.from-is ∙ elim w.if-from-at.branch [
              | then-from-at+in_ok-push w' ↦
                  ap (λ ws. texts ws.items ++ left t (l.at + 1)) w'.words-is ∙ ap (λ ws. texts ws ++ left t (l.at + 1)) w'.in_ok-push.ensures.items ∙ pushed l.words.items w'.range.result (left t (l.at + 1))
                  ∙ ap (λ v. texts l.words.items ++ v ∷ left t (l.at + 1)) w'.range.ensures.value ∙ ap (λ z. texts l.words.items ++ z) (sym (word_at t l.from l.at w'.if-from-at.true m l.invariant.none here)) ∙ l.invariant.words
              | else-from-at w' ↦
                  let at_from : l.at ≡ l.from = omega (arith, w'.if-from-at.false, l.invariant.before) in
                  ap (λ ws. texts ws.items ++ left t (l.at + 1)) w'.words-is ∙ ap (λ z. texts l.words.items ++ z) (sym (none_at t l.at m here)) ∙ ap (λ n. texts l.words.items ++ left t n) at_from ∙ l.invariant.words
            ];
          }
      | else-is_gap w ↦ record {
        before = omega (arith, w.from-is, l.invariant.before);
        start = subst (IsCharBoundary t) (sym w.from-is) l.invariant.start;
        none = subst (λ n. NoGap t n (l.at + 1)) (sym w.from-is) (no_gap_more t l.from l.at l.invariant.none (tested ∙ w.if-is_gap.false));
        words = ap (λ ws. texts ws.items ++ left t c.if-is_gap.from) w.words-is ∙ ap (λ n. texts l.words.items ++ left t n) w.from-is ∙ l.invariant.words;
      }
    ]

pub returns : goal.returns
returns c =
    let l = c.loop-at in
    let t = c.without_comment-text.result.now in
    let same : l.at ≡ length t = omega (arith, ap length c.as_bytes-bytes.ensures.value, c.loop-at-test.false, l.auto.at-end) in
    record {
      words = elim c.if-from-text.branch [
        | then-from-text+in_ok-push-2 w ↦
            ap (λ ws. texts ws.items) w.words-is ∙ ap texts w.in_ok-push-2.ensures.items ∙ map-append (λ x. x.now) l.words.items (w.range_from.result ∷ []) ∙ ap (λ v. texts l.words.items ++ v ∷ []) w.range_from.ensures.value
            ∙ ap (λ z. texts l.words.items ++ z) (sym (word_end t l.from w.if-from-text.true (subst (NoGap t l.from) same l.invariant.none))) ∙ l.invariant.words ∙ whole t ∙ ap parted c.without_comment-text.ensures.text
        | else-from-text w ↦ ap (λ ws. texts ws.items) w.words-is ∙ sym (append-nil (texts l.words.items)) ∙ ap (λ z. texts l.words.items ++ z) (sym (none_end t l.from w.if-from-text.false)) ∙ l.invariant.words ∙ whole t ∙ ap parted c.without_comment-text.ensures.text
      ];
    }
