mod OfParts
