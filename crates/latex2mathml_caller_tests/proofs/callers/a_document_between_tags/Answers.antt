use Rattle.latex2mathml_caller_tests.proofs.Surrounded.{formula, paragraph}
use Rattle.latex2mathml_caller_tests.proofs.callers.a_document_between_tags.Goals as goal

pub article-page-requires : goal.article-page-requires
article-page-requires c = paragraph

pub quotation-page-requires : goal.quotation-page-requires
quotation-page-requires c = formula
