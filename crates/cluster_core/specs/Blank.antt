-- A setting of no run: no nodes, no tables, a script of no lines. Actors are called by as many zeros as their number.
use Rattle.std.specs.Prelude.{ℕ, suc, List, [], false, replicate}
use Rattle.cluster_events.specs.Settings.{Setting}
use Rattle.session_language.specs.Language.{OtherText}

abbrev pub blank : Setting
blank = record {
  nodes = 0;
  language = record { kind = λ text. OtherText; answer = λ tables versions done text. record { replies = []; ops = []; uses = []; ranges = []; failed = false } };
  script = record { nodes = 0; cluster = []; workers = 1; sessions = []; tables = []; watches = []; body = [] };
  tables = [];
  names = λ i. replicate i 0;
  phase = λ s told. 0;
  armed = λ s told place. false;
}
