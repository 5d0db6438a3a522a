-- five stores, where there are five places
use Rattle.run.proofs.Booking.{stint-stored, stint-not-stored}
use Rattle.run.proofs.book.Book.write_stint.Goals as goal

pub returns-then-at-list : goal.returns-then-at-list
returns-then-at-list c = record {
  stored = rw c.copy_from_slice.ensures.after
      (stint-stored c.args.self.finished c.args.self.current c.args.list.now _ _ _ c.kind.ensures.exact c.place_of.ensures.exact
      c.release_of.ensures.exact c.if-at-list.true);
}

pub returns-else-at-list : goal.returns-else-at-list
returns-else-at-list c = record { stored = stint-not-stored _ _ _ c.if-at-list.false }
