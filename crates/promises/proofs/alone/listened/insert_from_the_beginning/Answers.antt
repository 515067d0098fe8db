use Rattle.promises.proofs.alone.listened.insert_from_the_beginning.Goals as goal

-- the default of a request state is at its beginning
pub returns : goal.returns
returns g c =
    let alone = c.insert.ensures.inserts in record {
      first = alone.first;
      last = alone.last;
      begins = alone.begins.1;
      does = alone.does;
    }
