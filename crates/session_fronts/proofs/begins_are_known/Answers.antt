use Rattle.session_fronts.proofs.FreshLaws.{no_lower}
use Rattle.session_fronts.proofs.KnownLaws.{answered_known}
use Rattle.session_fronts.proofs.PageLaws.{begin_pages, known_schema}
use Rattle.session_fronts.proofs.begins_are_known.Goals as goal

pub returns-clause-known : goal.returns-clause-known
returns-clause-known c = λ G h o legal answered. answered_known G h legal o answered

pub returns-clause-pages : goal.returns-clause-pages
returns-clause-pages c = λ G h o legal answered. begin_pages G h legal o answered

pub returns-clause-tables : goal.returns-clause-tables
returns-clause-tables c = λ G h o g d tables legal known some dur is. known_schema G h legal o known some g d tables dur is

pub returns-clause-no_lower : goal.returns-clause-no_lower
returns-clause-no_lower c = λ G s b g later before o legal known can. no_lower G s later before legal o known b g can
