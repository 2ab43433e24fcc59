use Rattle.std.proofs.Common.{[], refl}
use Rattle.amo_arguments.proofs.arguments.parse_run.Goals as goal

pub returns-in_default-clause-seed : goal.returns-in_default-clause-seed
returns-in_default-clause-seed c = (
  _,
  refl,
  c.in_default.ensures.none,
  (
    (
      record {
        streams = c.in_ok-streams.streams;
        clients = c.in_ok-clients.clients;
        crashes = c.in_ok-crashes.crashes;
        seed = [];
        link = c.in_ok-link.link;
        pumps = c.in_ok-pumps.pumps;
        split = c.in_ok-split.split;
        batch = c.in_ok-batch.batch;
      },
      c.in_ok-journal.journal.now,
    ),
    (
      record {
        streams = c.in_ok-streams.ensures.0;
        clients = c.in_ok-clients.ensures.0;
        crashes = c.in_ok-crashes.ensures.0;
        link = c.in_ok-link.ensures;
        pumps = c.in_ok-pumps.ensures.0;
        split = c.in_ok-split.ensures;
        batch = c.in_ok-batch.ensures;
        within = record {
          streams = (c.in_ok-streams.ensures.1, c.in_ok-streams.ensures.2);
          clients = (c.in_ok-clients.ensures.1, c.in_ok-clients.ensures.2);
          crashes = c.in_ok-crashes.ensures.2;
          pumps = (c.in_ok-pumps.ensures.1, c.in_ok-pumps.ensures.2);
        };
      },
      c.in_ok-journal.ensures.file,
    ),
  ),
)
