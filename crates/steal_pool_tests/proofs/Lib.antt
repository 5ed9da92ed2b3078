mod SeatLists
