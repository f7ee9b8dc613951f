use Rattle.std.proofs.Common.{◌∙◌, ap}
use Rattle.pr_lens_rtl.specs.Kept.{is_kept, marks_of}
use Rattle.pr_lens_rtl_text.specs.Uncommented.{uncommented}
use Rattle.pr_lens_rtl_text.proofs.CommentLemmas.{modules_alike}
use Rattle.pr_lens_rtl_text.proofs.NamingLaws.{vectors_named}
use Rattle.pr_lens_rtl_text.proofs.laws.written_law.Goals as goal

pub returns : goal.returns
returns c = record {
  trace = λ N P note name program s text is first now rest run.
      c.kept_law.ensures.trace N P s is.lawful is.bytes (is_kept (marks_of N P s)) (c.kept_law.ensures.closed N P s is.lawful is.bytes) first now rest run;
  all = λ N P note name program s text is first now rest more run none long.
      c.kept_law.ensures.all N P s is.lawful is.bytes (is_kept (marks_of N P s)) (c.kept_law.ensures.closed N P s is.lawful is.bytes) first now rest more run none long;
  ready = λ N P note name program s text is now settled.
      c.kept_law.ensures.ready N P s is.lawful is.bytes (is_kept (marks_of N P s)) (c.kept_law.ensures.closed N P s is.lawful is.bytes) now settled;
  settles = λ N P note name program s text is first fit. c.kept_law.ensures.settles N P s is.lawful is.bytes (is_kept (marks_of N P s)) first fit;
  next = λ N P note name program s text is now ports settled fit. c.kept_law.ensures.next N P s is.lawful is.bytes (is_kept (marks_of N P s)) now ports settled fit;
  once = λ N P note name program s text is. c.driven_law.ensures.once N P s is.lawful is.bytes (is_kept (marks_of N P s));
  named = λ N P note name program s text is.
      vectors_named _ (c.driven_law.ensures.numbers N P s is.lawful is.bytes (is_kept (marks_of N P s))) (c.driven_law.ensures.once N P s is.lawful is.bytes (is_kept (marks_of N P s)));
  comments = λ N P note other name program s text is. ap uncommented is.is ∙ modules_alike note other _ _ _ _;
}
