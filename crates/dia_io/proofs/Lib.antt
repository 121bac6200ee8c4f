mod TextsInPieces
